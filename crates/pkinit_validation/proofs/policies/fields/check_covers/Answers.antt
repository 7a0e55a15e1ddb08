use Rattle.std.proofs.Common.{◌≡◌, false, refl, sym, ◌∙◌}
use Rattle.krb_messages.specs.Bodies.{body_bytes}
use Rattle.pkinit_messages.specs.AuthPacks.{checksum_in}
use Rattle.pkinit_validation.specs.AuthPacks.{is_sha1_of}
use Rattle.pkinit_validation.proofs.PolicyFieldLemmas.{covered, same_digest}
use Rattle.pkinit_validation.proofs.policies.fields.check_covers.Goals as goal

pub returns-then-not-is_sha1_of : goal.returns-then-not-is_sha1_of
returns-then-not-is_sha1_of c =
    let other : is_sha1_of (body_bytes c.args.body.now) (checksum_in c.args.pack.now) ≡ false =
    same_digest c.args.body.now c.args.pack.now c.as_slice-octets.result.now _ (c.as_slice-octets.ensures.value ∙ c.in_ok-bytes.ensures) c.checksum.ensures false
    (sym c.is_sha1_of.ensures ∙ c.if-not-is_sha1_of.true) in
    rw other refl

pub returns : goal.returns
returns c =
    covered c.args.body.now c.args.pack.now c.as_slice-octets.result.now _ (c.as_slice-octets.ensures.value ∙ c.in_ok-bytes.ensures) c.checksum.ensures _ c.check_second.result
    c.second_checksum.ensures (sym c.is_sha1_of.ensures ∙ c.if-not-is_sha1_of.false) c.check_second.ensures

use Rattle.std.proofs.Common.{◌≡◌, true, false, sym, refl, ◌∙◌}
use Rattle.std.specs.Bool.{nat_eq}
use Rattle.std.specs.Cmp.Lexicographic.{pointwise}
use Rattle.cms_signed_data.specs.Digests.{digest_by}
use Rattle.cms_signed_data.specs.GeneralContents.{content_of}
use Rattle.pkinit_validation.proofs.policies.signer.check_signature.Goals as goal

pub returns-then-not-has_digest : goal.returns-then-not-has_digest
returns-then-not-has_digest g c =
    let other : pointwise nat_eq (digest_by c.args.content.now.algorithm (content_of c.args.content.now.info)) c.args.content.now.digest ≡ false =
    sym c.has_digest.ensures ∙ c.if-not-has_digest.true in
    rw other refl

pub returns : goal.returns
returns g c =
    let same : pointwise nat_eq (digest_by c.args.content.now.algorithm (content_of c.args.content.now.info)) c.args.content.now.digest ≡ true =
    sym c.has_digest.ensures ∙ c.if-not-has_digest.false in
    rw same c.check_by_algorithm.ensures

use Rattle.std.proofs.Common.{◌≡◌, None, Some, Ok, refl, sym, inl, inr, ◌∙◌}
use Rattle.pkinit_validation.specs.AgreementBytes.{agreement_bytes}
use Rattle.pkinit_validation.specs.PublicKeys.{IsPublicKey}
use Rattle.pkinit_validation.specs.Replies.{dh_key_data, key_info_bytes, key_info_of}
use Rattle.pkinit_validation.proofs.SignedLemmas.{moved}
use Rattle.pkinit_validation.proofs.policies.reply.agile_reply.Goals as goal

pub returns-in_default-3 : goal.returns-in_default-3
returns-in_default-3 g c =
    let keys = g.K.KeyFunctions.functions c.args.keys.now in
    let info = key_info_bytes (key_info_of c.in-Some-2.key.subject_public_key c.args.nonce.now) in
    let present : keys.public_value (agreement_bytes c.args.words.now) ≡ Some c.in-Some.element = sym c.in_ok-element.ensures ∙ c.in-Some.is in
    let found : IsPublicKey c.in-Some.element c.in-Some-2.key = rw c.in-Some-2.is at c.in_ok-key.ensures in
    let unsigned =
    moved keys.sign c.args.certificate.now dh_key_data c.deref.result.now info c.in_ok-signed.field-0 None
    (c.deref.ensures.value ∙ c.in_ok-info.ensures) c.in_default-3.is c.in_ok-signed.ensures in
    rw present (inl (c.in-Some-2.key, found, inr (unsigned, refl)))

pub returns : goal.returns
returns g c =
    let keys = g.K.KeyFunctions.functions c.args.keys.now in
    let info = key_info_bytes (key_info_of c.in-Some-2.key.subject_public_key c.args.nonce.now) in
    let present : keys.public_value (agreement_bytes c.args.words.now) ≡ Some c.in-Some.element = sym c.in_ok-element.ensures ∙ c.in-Some.is in
    let found : IsPublicKey c.in-Some.element c.in-Some-2.key = rw c.in-Some-2.is at c.in_ok-key.ensures in
    let written =
    moved keys.sign c.args.certificate.now dh_key_data c.deref.result.now info c.in_ok-signed.field-0 (Some c.in-Some-3.signed)
    (c.deref.ensures.value ∙ c.in_ok-info.ensures) c.in-Some-3.is c.in_ok-signed.ensures in
    rw present (inl (c.in-Some-2.key, found, inl (c.in-Some-3.signed.items, written, (λ i. Ok (c.in_ok-reply.ensures i)))))

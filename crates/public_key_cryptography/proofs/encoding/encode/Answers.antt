use Rattle.std.proofs.Common.{◌≡◌, sym, ap, ◌∙◌, length, ◌∷◌}
use Rattle.public_key_cryptography.specs.declared.hash.HashFunction.TheVariants.{Sha1, Sha256, Sha384, Sha512}
use Rattle.public_key_cryptography.specs.Pkcs1.{digest_info, encoded, padded}
use Rattle.public_key_cryptography.proofs.encoding.encode.Goals as goal

pub returns-in-Sha256 : goal.returns-in-Sha256
unfolding encoded
returns-in-Sha256 c =
    let made : c.pad.new.octets ≡ encoded (length c.args.octets.now) Sha256 c.args.message.now = c.pad.ensures ∙ ap (λ d. padded (length c.args.octets.now) (0 ∷ digest_info Sha256) d) c.sha256_of.ensures in
    made ∙ ap (λ h. encoded (length c.args.octets.now) h c.args.message.now) (sym c.in-Sha256.is)

pub returns-in-Sha384 : goal.returns-in-Sha384
unfolding encoded
returns-in-Sha384 c =
    let made : c.pad-in-Sha384.new.octets ≡ encoded (length c.args.octets.now) Sha384 c.args.message.now = c.pad-in-Sha384.ensures ∙ ap (λ d. padded (length c.args.octets.now) (0 ∷ digest_info Sha384) d) c.sha384_of.ensures in
    made ∙ ap (λ h. encoded (length c.args.octets.now) h c.args.message.now) (sym c.in-Sha384.is)

pub returns-in-Sha512 : goal.returns-in-Sha512
unfolding encoded
returns-in-Sha512 c =
    let made : c.pad-in-Sha512.new.octets ≡ encoded (length c.args.octets.now) Sha512 c.args.message.now = c.pad-in-Sha512.ensures ∙ ap (λ d. padded (length c.args.octets.now) (0 ∷ digest_info Sha512) d) c.sha512_of.ensures in
    made ∙ ap (λ h. encoded (length c.args.octets.now) h c.args.message.now) (sym c.in-Sha512.is)

pub returns-in-Sha1 : goal.returns-in-Sha1
unfolding encoded
returns-in-Sha1 c =
    let made : c.pad-in-Sha1.new.octets ≡ encoded (length c.args.octets.now) Sha1 c.args.message.now = c.pad-in-Sha1.ensures ∙ ap (λ d. padded (length c.args.octets.now) (0 ∷ digest_info Sha1) d) c.sha1_of.ensures in
    made ∙ ap (λ h. encoded (length c.args.octets.now) h c.args.message.now) (sym c.in-Sha1.is)

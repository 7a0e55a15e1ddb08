use Rattle.std.proofs.Common.{◌≡◌, Err, sym, ap, ◌∙◌, subst}
use Rattle.picky_asn1_der.specs.Splits.{raw_bytes}
use Rattle.rsa_keys.specs.Algorithms.{group_of}
use Rattle.rsa_keys.specs.Reading.{Reads}
use Rattle.rsa_keys.specs.Values.{info_bytes}
use Rattle.rsa_keys.proofs.Groups.{found_info, refused}
use Rattle.rsa_keys.proofs.public_value.DhPublicValue.read.Goals as goal

pub returns-in-Err : goal.returns-in-Err
returns-in-Err c =
    let read : raw_bytes c.args.element.now ≡ info_bytes c.in-Some.info = sym c.as_bytes.ensures ∙ found_info _ _ _ _ c.in-Some.is c.in_ok-info.ensures in
    let group : group_of (raw_bytes c.in-Some.info.algorithm) c.args.weak ≡ Err c.in-Err.refusal =
    ap (λ bytes. group_of bytes c.args.weak) (sym c.as_bytes-2.ensures) ∙ sym c.group_of.ensures ∙ c.in-Err.is in
    subst (λ fault. Reads (raw_bytes c.args.element.now) c.args.weak (Err fault)) (sym c.from.ensures) (refused c.in-Some.info (raw_bytes c.args.element.now) c.args.weak c.in-Err.refusal read group)

use Rattle.std.proofs.Common.{Err, ap, ◌∙◌}
use Rattle.rsa_keys.specs.Signatures.{verdict}
use Rattle.rsa_keys.specs.declared.refusal.SignatureRefusal.TheVariants.{Key}
use Rattle.rsa_keys.proofs.Verified.{answered, answered_refusal}
use Rattle.rsa_keys.proofs.signature.check_by_numbers.Goals as goal

pub returns-in-Ok : goal.returns-in-Ok
returns-in-Ok c = c.verdict.ensures ∙ ap verdict c.verifies.ensures ∙ answered c.in-Ok.key (c.args.numbers.now.modulus.now, c.args.numbers.now.exponent.now) c.args.hash c.args.signed.now c.args.signature.now c.in-Ok.ensures

pub returns-in-Err : goal.returns-in-Err
returns-in-Err c =
    ap (λ refusal. Err (Key refusal)) c.refusal_named.ensures
    ∙ answered_refusal (c.args.numbers.now.modulus.now, c.args.numbers.now.exponent.now) c.args.hash c.args.signed.now c.args.signature.now c.in-Err.refusal c.in-Err.ensures

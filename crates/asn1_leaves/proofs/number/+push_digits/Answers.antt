use Rattle.std.proofs.Common.{◌<◌, ◌+◌, ◌/◌, ◌%◌, [], ◌∷◌, ◌++◌, sym, ap, ◌∙◌, append_assoc, arith}
use Rattle.std.specs.Int.Digits.{digits_of}
use Rattle.std.proofs.lemmas.List.{map-append}
use Rattle.std.proofs.lemmas.Int.Digits.{digits_of_step}
use Rattle.asn1_leaves.proofs.NumberLemmas.{marked}
use Rattle.asn1_leaves.proofs.number.+push_digits.Goals as goal

pub returns : goal.returns
returns t c =
    let n = c.args.number in
    let positive : 0 < n = omega arith in
    c.in_ok-push.ensures.items
    ∙ ap (λ xs. xs ++ (128 + n % 128) ∷ []) c.in_ok-push_digits.ensures
    ∙ append_assoc c.args.octets.now.items (marked (digits_of 128 (n / 128))) ((128 + n % 128) ∷ [])
    ∙ ap (λ xs. c.args.octets.now.items ++ xs)
    (sym (ap marked (digits_of_step 128 n (omega arith) positive) ∙ map-append (λ digit. 128 + digit) (digits_of 128 (n / 128)) (n % 128 ∷ [])))

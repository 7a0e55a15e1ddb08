use Rattle.std.proofs.Common.{◌/◌, ◌%◌, [], ◌∷◌, ◌++◌, ap, ◌∙◌, append_assoc}
use Rattle.std.specs.Int.Digits.{digits_of}
use Rattle.asn1_leaves.specs.ObjectIdentifier.{subidentifier}
use Rattle.asn1_leaves.proofs.NumberLemmas.{marked}
use Rattle.asn1_leaves.proofs.number.push_number.Goals as goal

pub returns : goal.returns
unfolding subidentifier
returns c =
    let n = c.args.number in
    c.in_ok-push.ensures.items
    ∙ ap (λ xs. xs ++ n % 128 ∷ []) c.in_ok-push_digits.ensures
    ∙ append_assoc c.args.octets.now.items (marked (digits_of 128 (n / 128))) (n % 128 ∷ [])

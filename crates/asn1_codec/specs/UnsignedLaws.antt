-- An INTEGER's content writes one number.
use Rattle.std.proofs.Common.{◌≡◌, ℕ, List, [], ◌∷◌, refl, sym, ap, ◌∙◌, inl, inr, arith, ltb}
use Rattle.std.specs.Int.Digits.{number_from_digits}
use Rattle.std.proofs.lemmas.Bool.{cases_lt}
use Rattle.std.proofs.lemmas.Bool.Decides.{nat_tests}
use Rattle.asn1_der.specs.Length.{digits}
use Rattle.asn1_der.proofs.Digits.{number-digits}
use Rattle.asn1_der.proofs.Tagged.{TagLaws, leaf_laws}
use Rattle.asn1_codec.specs.Unsigned.{with_sign, unsigned_content, unsigned_tree}

number-with_sign : (ds : List ℕ) → number_from_digits 256 (with_sign ds) ≡ number_from_digits 256 ds
number-with_sign [] = refl
number-with_sign (d ∷ ds) = elim (cases_lt d 128) [ inl low ↦ grind (arith, nat_tests) | inr high ↦ grind (arith, nat_tests) ]

-- the number can be computed from its content
pub number-unsigned_content : (n : ℕ) → number_from_digits 256 (unsigned_content n) ≡ n
unfolding unsigned_content
number-unsigned_content n = number-with_sign (digits n) ∙ number-digits n

pub unsigned_content-injective : (m n : ℕ) → unsigned_content m ≡ unsigned_content n → m ≡ n
unsigned_content-injective m n e = sym (number-unsigned_content m) ∙ ap (number_from_digits 256) e ∙ number-unsigned_content n

-- what the trees of such a type obey
pub unsigned_laws : (bound : ℕ) → TagLaws (unsigned_tree bound)
unsigned_laws bound = leaf_laws (λ n. ltb n bound) unsigned_content (λ v w left right same. unsigned_content-injective v w same)

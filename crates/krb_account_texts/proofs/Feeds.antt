-- What is plain has no line feed.
use Rattle.std.proofs.Common.{◌≡◌, ℕ, ◌==◌, not, true, List, [], ◌∷◌, ◌++◌, refl}
use Rattle.std.specs.List.{list_all}
use Rattle.std.proofs.lemmas.Bool.{and_parts}
use Rattle.krb_account_texts.proofs.Plain.{all-both, is_all_plain, is_plain, no_feed}

pub fed-plain : (text : List ℕ) → is_all_plain text ≡ true → list_all (λ octet. not (octet == 10)) text ≡ true
fed-plain [] plain = refl
fed-plain (c ∷ text) plain =
    let both = and_parts (is_plain c) (is_all_plain text) plain in
    rw (no_feed c both.0, fed-plain text both.1) refl

-- plain texts with tabs between them have none
pub fed-part : (part rest : List ℕ) → is_all_plain part ≡ true → list_all (λ octet. not (octet == 10)) rest ≡ true
    → list_all (λ octet. not (octet == 10)) (part ++ 9 ∷ rest) ≡ true
fed-part part rest plain fed = all-both (λ octet. not (octet == 10)) part (9 ∷ rest) (fed-plain part plain) fed

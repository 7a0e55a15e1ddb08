-- The parts between tabs.
use Rattle.std.proofs.Common.{◌≡◌, ℕ, ◌==◌, Bool, true, List, [], ◌∷◌, ◌++◌, refl}
use Rattle.krb_account_texts.specs.Reading.{fields}
use Rattle.krb_account_texts.proofs.Plain.{is_all_plain, is_plain, no_tab, split-last, split-part}

abbrev is_tab : ℕ → Bool
is_tab octet = octet == 9

pub tab-part : (part rest : List ℕ) → is_all_plain part ≡ true → fields (part ++ 9 ∷ rest) ≡ part ∷ fields rest
tab-part part rest plain = split-part is_tab is_plain no_tab part 9 rest plain refl

pub tab-last : (part : List ℕ) → is_all_plain part ≡ true → fields part ≡ part ∷ []
tab-last part plain = split-last is_tab is_plain no_tab part plain

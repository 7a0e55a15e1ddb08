-- What reading UTF-8 answers, as std's test of octets.
use Rattle.std.proofs.Common.{◌≡◌, ℕ, List, Result, Ok, Err, MatchResult, sym, inl, inr}
use Rattle.std.specs.Result.{is_ok}
use Rattle.std.specs.Str.{IsUtf8, is_utf8}
use Rattle.std.proofs.lemmas.Bool.{cases_Bool}
use Rattle.std.proofs.lemmas.Str.{IsUtf8-from_is_utf8, is_utf8-from_IsUtf8}

pub read_utf8 : {T E : Type 0} (octets : List ℕ) (P : T → Type 0) (Q : E → Type 0) (read : Result T E) → MatchResult read (λ text. P text × IsUtf8 octets) (λ e. ¬ (IsUtf8 octets) × Q e) → is_ok read ≡ is_utf8 octets
read_utf8 octets P Q (Ok text) h = sym (is_utf8-from_IsUtf8 octets h.1)
read_utf8 octets P Q (Err e) h =
    elim (cases_Bool (is_utf8 octets)) [
      | inl is ↦ absurd (h.0 (IsUtf8-from_is_utf8 octets is))
      | inr not_is ↦ sym not_is
    ]

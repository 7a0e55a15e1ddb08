-- Which lists of admitted pairs have none twice, and how many calls were admitted (RFC 4120, section 3.2.3).
use Rattle.std.specs.Prelude.{◌≡◌, ℕ, suc, false, List, [], ◌∷◌, Result, Ok, Err}
use Rattle.krb_service.specs.Pair.{PairRecord, is_among}
use Rattle.krb_service.specs.Admission.{AdmissionRecord}
use Rattle.krb_ap_requests.specs.declared.refusal.AdmitRefusal.{AdmitRefusal}

-- each pair of client and time differs from all that were admitted before it
abbrev pub AreOnce : List PairRecord → Type 0
AreOnce [] = Unit {0}
AreOnce (pair ∷ before) = (is_among pair before ≡ false) × AreOnce before

-- the number of admissions among the answers
abbrev pub admissions_in : List (Result AdmissionRecord AdmitRefusal) → ℕ
admissions_in [] = 0
admissions_in (Ok admission ∷ answers) = suc (admissions_in answers)
admissions_in (Err refusal ∷ answers) = admissions_in answers

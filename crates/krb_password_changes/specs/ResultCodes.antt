-- The result codes (RFC 3244, section 2).
use Rattle.std.specs.Prelude.{◌≡◌, ℕ, nat_eq, if◌then◌else◌, List, [], ◌∷◌, refl}
use Rattle.krb_password_changes.specs.declared.messages.result_code.TheConstants.{KRB5_KPASSWD_SUCCESS, KRB5_KPASSWD_MALFORMED, KRB5_KPASSWD_HARDERROR, KRB5_KPASSWD_AUTHERROR, KRB5_KPASSWD_SOFTERROR, KRB5_KPASSWD_ACCESSDENIED, KRB5_KPASSWD_BAD_VERSION, KRB5_KPASSWD_INITIAL_FLAG_NEEDED, KRB5_KPASSWD_OTHER}
use Rattle.krb_password_changes.specs.declared.messages.result_code.ResultCode.{ResultCode}
use Rattle.krb_password_changes.specs.declared.messages.result_code.ResultCode.TheVariants.{Success, Malformed, HardError, AuthError, SoftError, AccessDenied, BadVersion, InitialFlagNeeded, Other}

abbrev pub result_number : ResultCode → ℕ
result_number Success = KRB5_KPASSWD_SUCCESS
result_number Malformed = KRB5_KPASSWD_MALFORMED
result_number HardError = KRB5_KPASSWD_HARDERROR
result_number AuthError = KRB5_KPASSWD_AUTHERROR
result_number SoftError = KRB5_KPASSWD_SOFTERROR
result_number AccessDenied = KRB5_KPASSWD_ACCESSDENIED
result_number BadVersion = KRB5_KPASSWD_BAD_VERSION
result_number InitialFlagNeeded = KRB5_KPASSWD_INITIAL_FLAG_NEEDED
result_number Other = KRB5_KPASSWD_OTHER

abbrev pub named_codes : List ResultCode
named_codes =
    Success ∷ Malformed ∷ HardError ∷ AuthError ∷ SoftError ∷ AccessDenied ∷ BadVersion ∷ InitialFlagNeeded ∷ []

-- A number that has no name is read as `Other`: a client takes each number but 0 for a failure (RFC 3244, section 2). Test: `code 8`,
-- `code 255` of `password_frames.txt`.
abbrev pub code_among : List ResultCode → ℕ → ResultCode
code_among [] number = Other
code_among (code ∷ codes) number = if nat_eq number (result_number code) then code else code_among codes number

abbrev pub code_of : ℕ → ResultCode
code_of = code_among named_codes

-- a code is that of its number
pub code_again : (code : ResultCode) → code_of (result_number code) ≡ code
code_again Success = refl
code_again Malformed = refl
code_again HardError = refl
code_again AuthError = refl
code_again SoftError = refl
code_again AccessDenied = refl
code_again BadVersion = refl
code_again InitialFlagNeeded = refl
code_again Other = refl

-- How a request is refused.
use Rattle.std.specs.Prelude.{Result, Ok, Err}
use Rattle.krb_password_changes.specs.declared.messages.result_code.ResultCode.{ResultCode}
use Rattle.krb_password_changes.specs.declared.messages.result_code.ResultCode.TheVariants.{Malformed, AuthError}
use Rattle.krb_ap_requests.specs.declared.refusal.AdmitRefusal.{AdmitRefusal}
use Rattle.krb_ap_requests.specs.declared.refusal.AdmitRefusal.TheVariants as admit
use Rattle.krb_password_changes.specs.declared.refusal.ChangeRefusal.{ChangeRefusal}
use Rattle.krb_password_changes.specs.declared.refusal.ChangeRefusal.TheVariants.{Refused, Memory}

-- memory aside, what was judged is an outcome of a table's: a value, or a result code
abbrev pub IsJudged : {T : Type 0} → (Result T ResultCode → Type 0) → Result T ChangeRefusal → Type 0
IsJudged gives (Ok value) = gives (Ok value)
IsJudged gives (Err (Refused code)) = gives (Err code)
IsJudged gives (Err Memory) = Unit {0}

-- How an AP-REQ is refused that isn't admitted: it is malformed, or its authentication failed (RFC 3244, section 2). Test: `no AP-REQ`,
-- `ticket for another service` of `password_changes.txt`.
abbrev pub refused_as : AdmitRefusal → ChangeRefusal
refused_as admit.Unreadable = Refused Malformed
refused_as (admit.Krb code) = Refused AuthError
refused_as admit.Memory = Memory

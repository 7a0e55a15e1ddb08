-- How a service refuses a request.
use Rattle.std.specs.Prelude.{ℕ}
use Rattle.krb_messages.specs.declared.refusal.Refusal.{Refusal}
use Rattle.krb_messages.specs.declared.refusal.Refusal.TheVariants as judging
use Rattle.krb_ap_requests.specs.declared.refusal.AdmitRefusal.{AdmitRefusal}
use Rattle.krb_ap_requests.specs.declared.refusal.AdmitRefusal.TheVariants.{Unreadable, Krb, Memory}

-- The number of a refusal, which of an error is the same for each code.
abbrev pub refusal_number : AdmitRefusal → ℕ
refusal_number Unreadable = 1
refusal_number (Krb code) = 2
refusal_number Memory = 3

-- what a request is refused for that was read
abbrev pub refused_for : Refusal → AdmitRefusal
refused_for (judging.Krb code) = Krb code
refused_for judging.Memory = Memory

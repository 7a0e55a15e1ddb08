-- How refusals are told as those of a login, and how what was made is sent.
use Rattle.std.specs.Prelude.{◌≡◌, [], ℕ, Result, Ok, Err, Vec}
use Rattle.std.specs.Global.{Global}
use Rattle.picky_asn1.specs.Bytes.{Bytes}
use Rattle.krb_crypto.specs.declared.suite.CipherSuite.{CipherSuite}
use Rattle.krb_client.specs.Client.{CredentialRecord}
use Rattle.krb_client.specs.Taking.{Taken}
use Rattle.krb_client.specs.declared.refusal.AskRefusal.{AskRefusal}
use Rattle.krb_client.specs.declared.refusal.AskRefusal.TheVariants as ask_refusal
use Rattle.krb_client.specs.declared.refusal.TakeRefusal.{TakeRefusal}
use Rattle.krb_client.specs.declared.refusal.TakeRefusal.TheVariants as take_refusal
use Rattle.krb_client_exchanges.specs.declared.refusal.HintRefusal.{HintRefusal}
use Rattle.krb_client_exchanges.specs.declared.refusal.HintRefusal.TheVariants as hint_refusal
use Rattle.krb_client_exchanges.specs.declared.refusal.HintedClientRefusal.{HintedClientRefusal}
use Rattle.krb_client_exchanges.specs.declared.refusal.HintedClientRefusal.TheVariants as client_refusal
use Rattle.krb_client_exchanges.specs.Courses.{Course, ◌>>=◌, ended, sent}
use Rattle.krb_client_exchanges.specs.declared.fault.ExchangeFault.{ExchangeFault}
use Rattle.krb_client_exchanges.specs.declared.fault.ExchangeFault.TheVariants as fault
use Rattle.krb_client_exchanges.specs.declared.fault.LoginRefusal.TheVariants.{NotAsked, NotHinted, NotMade, NotTaken}

-- Why there is no hint.
abbrev pub not_hinted : {F : Type 0} → HintRefusal → ExchangeFault F
not_hinted hint_refusal.Memory = fault.Memory
not_hinted refusal = fault.Refused (NotHinted refusal)

abbrev pub judged_hint : {T F : Type 0} → Result T HintRefusal → Result T (ExchangeFault F)
judged_hint (Ok value) = Ok value
judged_hint (Err refusal) = Err (not_hinted refusal)

-- Why there is no key by a hint of this suite.
abbrev pub not_made : {F : Type 0} → CipherSuite → HintedClientRefusal → ExchangeFault F
not_made suite client_refusal.Memory = fault.Memory
not_made suite refusal = fault.Refused (NotMade suite refusal)

abbrev pub judged_made : {T F : Type 0} → CipherSuite → Result T HintedClientRefusal → Result T (ExchangeFault F)
judged_made suite (Ok value) = Ok value
judged_made suite (Err refusal) = Err (not_made suite refusal)

-- Why a reply isn't taken.
abbrev pub not_taken : {F : Type 0} → TakeRefusal → ExchangeFault F
not_taken take_refusal.Memory = fault.Memory
not_taken refusal = fault.Refused (NotTaken refusal)

abbrev pub judged_taken : {F : Type 0} → Taken → Result CredentialRecord (ExchangeFault F)
judged_taken (Ok credential) = Ok credential
judged_taken (Err refusal) = Err (not_taken refusal)

-- Why there is no request.
abbrev pub not_asked : {F : Type 0} → AskRefusal → ExchangeFault F
not_asked ask_refusal.Memory = fault.Memory
not_asked refusal = fault.Refused (NotAsked refusal)

-- A request that was made is sent. What the client remembers of it goes with the reply.
abbrev pub posted : {F A : Type 0} → Result (Bytes × A) AskRefusal → Course F (A × Bytes)
posted (Ok whole) = do
  reply ← sent whole.0
  ended (whole.1, reply)
posted (Err refusal) = λ events outcome. (events ≡ []) × (outcome ≡ Err (not_asked refusal))

-- The same, with the octets that were sent.
abbrev pub posted_kept : {F A : Type 0} → Result (Bytes × A) AskRefusal → Course F (Bytes × (A × Bytes))
posted_kept (Ok whole) = do
  reply ← sent whole.0
  ended (whole.0, (whole.1, reply))
posted_kept (Err refusal) = λ events outcome. (events ≡ []) × (outcome ≡ Err (not_asked refusal))

-- What was made, as its octets.
abbrev pub octets_first : {A E : Type 0} → Result (Vec ℕ Global × A) E → Result (Bytes × A) E
octets_first (Ok whole) = Ok (whole.0.items, whole.1)
octets_first (Err error) = Err error

abbrev pub octets_last : {A E : Type 0} → Result (A × Vec ℕ Global) E → Result (A × Bytes) E
octets_last (Ok whole) = Ok (whole.0, whole.1.items)
octets_last (Err error) = Err error

abbrev pub octets_both : {A E : Type 0} → Result (Vec ℕ Global × (A × Vec ℕ Global)) E → Result (Bytes × (A × Bytes)) E
octets_both (Ok whole) = Ok (whole.0.items, (whole.1.0, whole.1.1.items))
octets_both (Err error) = Err error

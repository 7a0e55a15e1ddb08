-- What a client takes of a reply by certificate.
use Rattle.std.specs.Prelude.{ℕ, Result, Ok, Err, Vec}
use Rattle.std.specs.Global.{Global}
use Rattle.picky_asn1.specs.Bytes.{Bytes}
use Rattle.pkinit_validation.specs.declared.refusal.TrustFault as trust
use Rattle.pkinit_validation.specs.declared.refusal.TrustFault.TheVariants as trust_fault
use Rattle.pkinit_clients.specs.declared.fault.ReplyFault.{ReplyFault}
use Rattle.pkinit_clients.specs.declared.fault.ReplyFault.TheVariants.{NotTrusted, Memory}

-- whatever the reason against a signer is, the client doesn't trust the reply
abbrev pub fault_of : trust.TrustFault → ReplyFault
fault_of (trust_fault.Refused refusal) = NotTrusted
fault_of trust_fault.Memory = Memory

-- the secret, or why there is none
abbrev pub Secret : Type 0
Secret = Result Bytes ReplyFault

-- the secret's bytes as a definition sees them
abbrev pub as_secret : Result (Vec ℕ Global) ReplyFault → Secret
as_secret (Ok bytes) = Ok bytes.items
as_secret (Err fault) = Err fault

-- memory aside, the answer is an outcome of the table
abbrev pub IsTakenAs : {T : Type 0} → (Result T ReplyFault → Type 0) → Result T ReplyFault → Type 0
IsTakenAs gives (Ok value) = gives (Ok value)
IsTakenAs gives (Err NotTrusted) = gives (Err NotTrusted)
IsTakenAs gives (Err Memory) = Unit {0}

-- Answers from accounts that are looked up.
use Rattle.std.specs.Prelude.{Option, None, Some, Result, Ok, Err, Vec, ℕ}
use Rattle.std.specs.Global.{Global}
use Rattle.picky_asn1.specs.Bytes.{Bytes}
use Rattle.krb_frames.specs.declared.fault.AnswerRefusal.{AnswerRefusal}
use Rattle.krb_frames.specs.declared.fault.AnswerRefusal.TheVariants as responder
use Rattle.krb_kdc.specs.Begins.{BeginsRequest, IsNoRequest}
use Rattle.krb_kdc.specs.Faults.{MayFail}
use Rattle.krb_kdc.specs.declared.fault.LookupFault.{LookupFault}
use Rattle.krb_kdc.specs.declared.fault.LookupFault.TheVariants as fault
use Rattle.krb_kdc.specs.declared.fault.LookupRefusal.{LookupRefusal}
use Rattle.krb_kdc.specs.declared.fault.LookupRefusal.TheVariants.{Unreadable, Fault}

-- The reply, none if the message is no request. Or an account was not looked up, or memory ran out.
abbrev pub IsAnswerBy : (Option Bytes → Type 0) → Result (Vec ℕ Global) LookupRefusal → Type 0
IsAnswerBy replies (Ok reply) = replies (Some reply.items)
IsAnswerBy replies (Err Unreadable) = replies None
IsAnswerBy replies (Err (Fault fault)) = Unit {0}

-- The message is no request. Or it begins as one, and memory ran out, or there may be this fault.
abbrev pub MayRefuse : (LookupFault → Type 0) → Bytes → LookupRefusal → Type 0
MayRefuse may message Unreadable = IsNoRequest message
MayRefuse may message (Fault fault) = BeginsRequest message × MayFail may fault

-- The refusal of a responder. An account that can't be read is refused by a refusal of its own.
abbrev pub refusal_of : LookupRefusal → AnswerRefusal
refusal_of Unreadable = responder.Unreadable
refusal_of (Fault fault.Memory) = responder.Memory
refusal_of (Fault (fault.Failed kind)) = responder.Accounts
refusal_of (Fault fault.Damaged) = responder.Accounts

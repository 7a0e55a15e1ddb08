-- The numbers of the faults.
use Rattle.std.specs.Prelude.{ℕ}
use Rattle.krb_frames.specs.declared.fault.AnswerRefusal.{AnswerRefusal}
use Rattle.krb_frames.specs.declared.fault.AnswerRefusal.TheVariants as refusal
use Rattle.krb_frames.specs.declared.fault.ServeFault.{ServeFault}
use Rattle.krb_frames.specs.declared.fault.ServeFault.TheVariants.{Truncated, FrameTooLong, NoRequest, Read, Write, NoWords, NoMoment, ReplyTooLong, Memory, Accounts}

-- the number of a responder's refusal
abbrev pub refusal_number : AnswerRefusal → ℕ
refusal_number refusal.Unreadable = 1
refusal_number refusal.Memory = 2
refusal_number refusal.Accounts = 3

-- the number of a fault that stops serving
abbrev pub fault_number : ServeFault → ℕ
fault_number Truncated = 1
fault_number FrameTooLong = 2
fault_number NoRequest = 3
fault_number Read = 4
fault_number Write = 5
fault_number NoWords = 6
fault_number NoMoment = 7
fault_number ReplyTooLong = 8
fault_number Memory = 9
fault_number Accounts = 10

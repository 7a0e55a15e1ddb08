-- The entry of a message and what it was answered.
use Rattle.std.specs.Prelude.{◌≡◌, ℕ, Option, None, Result, Ok, Err, Vec}
use Rattle.std.specs.Global.{Global}
use Rattle.picky_asn1.specs.Bytes.{Bytes}
use Rattle.krb_frames.specs.declared.fault.AnswerRefusal.{AnswerRefusal}
use Rattle.krb_kdc.specs.declared.seen.Seen.{Seen}
use Rattle.krb_realm_files.specs.Replies.{IsToldFrom}
use Rattle.krb_log.specs.Answers.{answer_of}
use Rattle.krb_log.specs.Asked.{IsAsked, IsAskedBy}
use Rattle.krb_log.specs.SeenReasons.{reason_by}
use Rattle.krb_log.specs.declared.answer.Answer.TheVariants.{Refused}
use Rattle.krb_log.specs.declared.entry.Entry.{Entry}

-- The entry is that of what was seen: of what the request asks for, the outcome of its reply, and the reason that the outcome leaves open.
pub record IsEntryOf (seen : Seen) (entry : Entry) : Type 0 where
  pub asked : IsAskedBy seen.request entry.asked
  pub answer : entry.answer ≡ answer_of seen.outcome
  pub reason : (reason_by seen.accounts.now seen.request seen.outcome).gives entry.reason

-- The entry is that of a message without a reply: of what it asks for, and why there is none.
pub record IsRefusalEntry (message : Bytes) (refusal : AnswerRefusal) (entry : Entry) : Type 0 where
  pub asked : IsAsked message entry.asked
  pub answer : entry.answer ≡ Refused refusal
  pub reason : entry.reason ≡ None

-- what an observer makes of what it sees: this entry
abbrev pub makes : Entry → Seen → Entry → Type 0
makes old seen new = IsEntryOf seen new

-- The entry is that of what was seen of this message to the realm of an opened file, and of its reply.
abbrev pub IsReplyEntry : {F : Type 0} → (F → Type 0) → (F → Option Bytes) → Bytes → Bytes → Entry → Type 0
IsReplyEntry {F} opens content message reply entry = (file : F) × opens file × IsToldFrom makes (content file) message entry entry reply

-- The entry is of this message and of what it was answered.
abbrev pub IsEntry : {F : Type 0} → (F → Type 0) → (F → Option Bytes) → Bytes → Result (Vec ℕ Global) AnswerRefusal → Entry → Type 0
IsEntry opens content message (Ok reply) entry = IsReplyEntry opens content message reply.items entry
IsEntry opens content message (Err refusal) entry = IsRefusalEntry message refusal entry

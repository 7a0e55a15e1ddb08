-- What a realm answers to a message.
use Rattle.std.specs.Prelude.{ℕ, Option, None, Some, Result, Ok, Err}
use Rattle.std.specs.Prelude.{Vec}
use Rattle.std.specs.Global.{Global}
use Rattle.picky_asn1.specs.Bytes.{Bytes}
use Rattle.krb_time.specs.Units.{Micros}
use Rattle.krb_messages.specs.RandomBytes.{Random}
use Rattle.x509_keys.specs.KeyFunctions.{KeysRecord}
use Rattle.krb_frames.specs.declared.fault.AnswerRefusal.{AnswerRefusal}
use Rattle.krb_frames.specs.declared.fault.AnswerRefusal.TheVariants.{Unreadable, Memory, Accounts}
use Rattle.pkinit_validation.specs.PkinitRows.{pkinit_rows}
use Rattle.krb_kdc_exchanges.specs.Replies.{Replies}
use Rattle.krb_memory_realms.specs.Realm.{RealmState, call_to}

-- the reply, none if the message is no request; or memory ran out. A realm has its accounts in memory, so they can always be read
abbrev pub IsAnswer : (Option Bytes → Type 0) → Result (Vec ℕ Global) AnswerRefusal → Type 0
IsAnswer replies (Ok reply) = replies (Some reply.items)
IsAnswer replies (Err Unreadable) = replies None
IsAnswer replies (Err Memory) = Unit {0}
IsAnswer replies (Err Accounts) = ⊥

-- the reply that a realm with these key functions may give to a message at a moment, with random bytes
abbrev pub RealmReplies : RealmState → KeysRecord → Bytes → Micros → Random → Option Bytes → Type 0
RealmReplies realm keys message moment words = Replies (call_to realm moment words) (pkinit_rows realm.trust keys) message

-- What the realm of a file replies that is opened anew for each message.
use Rattle.std.specs.Prelude.{◌≡◌, ◌⊎◌, Option, None, Some, Ok, false}
use Rattle.std.specs.declared.io.ErrorKind.{ErrorKind}
use Rattle.picky_asn1.specs.Bytes.{Bytes}
use Rattle.krb_messages.specs.RandomBytes.{Random}
use Rattle.krb_time.specs.Units.{Micros}
use Rattle.krb_realm_accounts.specs.Accounts.{Look}
use Rattle.krb_kdc_exchanges.specs.Call.{CallRecord}
use Rattle.krb_kdc_exchanges.specs.Replies.{Replies}
use Rattle.krb_realm_files.specs.Files.{Holds, IsLookOf, realm_said}
use Rattle.krb_realm_files.specs.declared.realm_parameters.RealmParameters.{RealmParameters}
use Rattle.krb_kdc.specs.Begins.{IsNoRequest}
use Rattle.krb_kdc.specs.Seen.{IsTold}
use Rattle.krb_kdc.specs.Sources.{AsksByCertificate}
use Rattle.krb_kdc.specs.declared.seen.Seen.{Seen}
use Rattle.krb_realm_files.specs.Lacks.{IsDamagedFor}
use Rattle.krb_realm_files.specs.Means.{AreMeansIn, general_policy, rows_of}
use Rattle.krb_realm_files.specs.RefusedPkinit.{refused_rows}
use Rattle.krb_realm_files.specs.declared.means.PkinitMeans.{PkinitMeans}

-- A reply, if logins by certificate are answered by these octets: one by any means, as that to a message which doesn't ask by certificate is.
-- Or the message asks by certificate, and the reply is one by the octets' means.
abbrev pub ReplyByOctets : Bytes → CallRecord → Bytes → Option Bytes → Type 0
ReplyByOctets octets call message reply =
    ((means : PkinitMeans) → Replies call (rows_of (general_policy call.settings.policy) means) message reply)
    ⊎ (AsksByCertificate message × ((means : PkinitMeans) × AreMeansIn octets means × Replies call (rows_of (general_policy call.settings.policy) means) message reply))

-- A reply of a realm that answers no login by certificate, or one by these octets.
abbrev pub ReplyBy : Option Bytes → CallRecord → Bytes → Option Bytes → Type 0
ReplyBy None call message reply = Replies call (refused_rows false) message reply
ReplyBy (Some octets) call message reply = ReplyByOctets octets call message reply

-- A reply of this realm with all of these accounts.
abbrev pub ReplyByRealm : RealmParameters → Look → Bytes → Micros → Random → Option Bytes → Type 0
ReplyByRealm realm all message moment words reply =
    ReplyBy realm.pkinit (record { realm = realm.name; settings = realm.settings; look = all; moment = moment; words = words }) message reply

-- A reply that the realm of a file with these octets may give to a message at a moment, with random bytes. The realm's name and settings
-- are those of the file, and so is what its logins by certificate are answered by. Its accounts are all of the file's, whatever stands
-- where the file is damaged.
abbrev pub FileReplies : Bytes → Bytes → Micros → Random → Bytes → Type 0
FileReplies bytes message moment words reply =
    (realm : RealmParameters) × (realm_said bytes ≡ Ok realm)
    × ((all : Look) → IsLookOf bytes all → ReplyByRealm realm all message moment words (Some reply))

-- A reply to a message at a moment, with random bytes, of some realm with some accounts.
abbrev pub IsRealmReply : Bytes → Micros → Random → Bytes → Type 0
IsRealmReply message moment words reply = (realm : RealmParameters) × (all : Look) × ReplyByRealm realm all message moment words (Some reply)

-- A reply to a message at a moment, with random bytes: it is that of some realm, and there is one file that may have been opened. If the
-- file's octets are known, the reply is that of their realm. There is none only if the message is no request.
abbrev pub RepliesFrom : {F : Type 0} → (F → Type 0) → (F → Option Bytes) → Bytes → Micros → Random → Option Bytes → Type 0
RepliesFrom opens content message moment words None = IsNoRequest message
RepliesFrom {F} opens content message moment words (Some reply) =
    IsRealmReply message moment words reply
    × ((file : F) × opens file × ((bytes : Bytes) → content file ≡ Some bytes → FileReplies bytes message moment words reply))

-- A read of the file may fail by some kind of fault, or the file's octets are damaged for the message, or they aren't known.
abbrev pub IsLacking : Option Bytes → (ErrorKind → Type 0) → Bytes → Type 0
IsLacking content fails message = (bytes : Bytes) → content ≡ Some bytes → ((kind : ErrorKind) × fails kind) ⊎ IsDamagedFor bytes message

-- It may be that the file can't be opened, or that one which was opened can't be read, or is damaged for the message.
abbrev pub MayLack : {F : Type 0} → (F → Type 0) → (ErrorKind → Type 0) → (F → Option Bytes) → (F → ErrorKind → Type 0) → Bytes → Type 0
MayLack {F} opens fails content read_fails message =
    ((kind : ErrorKind) × fails kind) ⊎ ((file : F) × opens file × IsLacking (content file) (read_fails file) message)

-- An observer saw a message to the realm of a file, and its reply. The realm's name is that of the file, and its accounts
-- are those of the file, if the file's octets are known.
abbrev pub IsToldFrom : {V : Type 0} → (V → Seen → V → Type 0) → Option Bytes → Bytes → V → V → Bytes → Type 0
IsToldFrom sees content message old new reply =
    (realm : RealmParameters) × ((bytes : Bytes) → content ≡ Some bytes → realm_said bytes ≡ Ok realm)
    × IsTold sees (Holds content) realm.name message old new reply

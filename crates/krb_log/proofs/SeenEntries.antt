-- The entry of what an observer saw is of the message and of its reply.
use Rattle.std.proofs.Common.{◌≡◌, Option, Some, Result, Ok, Err, IfOk}
use Rattle.picky_asn1.specs.Bytes.{Bytes}
use Rattle.krb_realm_accounts.specs.Accounts.{Look}
use Rattle.krb_kdc.specs.Seen.{HasAccounts, IsSeen}
use Rattle.krb_kdc.specs.declared.seen.Seen.{Seen}
use Rattle.krb_realm_files.specs.Files.{Holds, realm_said}
use Rattle.krb_realm_files.specs.declared.realm_parameters.RealmParameters.{RealmParameters}
use Rattle.krb_log.specs.Entries.{IsEntryOf, IsReplyEntry}
use Rattle.krb_log.specs.declared.entry.Entry.{Entry}

pub of_seen : {F E : Type 0} (opens : F → Type 0) (content : F → Option Bytes) (message reply : Bytes) (made : Result Entry E) (file : F) (realm : RealmParameters) (seen : Seen)
    → opens file → ((bytes : Bytes) → content file ≡ Some bytes → realm_said bytes ≡ Ok realm) → IsSeen message reply seen
    → ((all : Look) → Holds (content file) all → HasAccounts all realm.name seen.accounts.now seen.request) → IfOk made (IsEntryOf seen)
    → IfOk made (IsReplyEntry opens content message reply)
of_seen opens content message reply (Ok entry) file realm seen opened said is has of = (file, opened, (realm, said, (seen, is, has, of)))
of_seen opens content message reply (Err error) file realm seen opened said is has of = tt

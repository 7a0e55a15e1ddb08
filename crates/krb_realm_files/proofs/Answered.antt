-- A reply from a file.
use Rattle.std.proofs.Common.{◌≡◌, ℕ, List, Option, Some, Result, Ok, Err, IfOk}
use Rattle.std.specs.Prelude.{Vec}
use Rattle.std.specs.Global.{Global}
use Rattle.krb_realm_accounts.specs.Accounts.{Look}
use Rattle.krb_kdc.specs.Answers.{IsAnswerBy}
use Rattle.krb_kdc.specs.Seen.{IsTold}
use Rattle.krb_kdc.specs.declared.seen.Seen.{Seen}
use Rattle.krb_kdc.specs.declared.fault.LookupRefusal.{LookupRefusal}
use Rattle.krb_realm_files.specs.Files.{Holds, IsLookOf, realm_said}
use Rattle.krb_realm_files.specs.declared.realm_parameters.RealmParameters.{RealmParameters}
use Rattle.krb_realm_files.specs.Replies.{FileReplies, IsRealmReply, IsToldFrom, ReplyByRealm}

-- A reply of the realm that the file says, with any accounts that the file may have, is the file's.
pub replied : (bytes message : List ℕ) (moment : ℕ) (words : List ℕ) (realm : RealmParameters) (result : Result (Vec ℕ Global) LookupRefusal)
    → realm_said bytes ≡ Ok realm → ((all : Look) → IsLookOf bytes all → IsAnswerBy (ReplyByRealm realm all message moment words) result)
    → IfOk result (λ reply. FileReplies bytes message moment words reply.items)
replied bytes message moment words realm (Ok reply) is of = (realm, is, of)
replied bytes message moment words realm (Err refusal) is of = tt

-- A reply of the realm that was read is one of some realm.
pub of_some : (message : List ℕ) (moment : ℕ) (words : List ℕ) (realm : RealmParameters) (result : Result (Vec ℕ Global) LookupRefusal)
    → IfOk result (λ reply. (all : Look) × ReplyByRealm realm all message moment words (Some reply.items)) → IfOk result (λ reply. IsRealmReply message moment words reply.items)
of_some message moment words realm (Ok reply) is = (realm, is.0, is.1)
of_some message moment words realm (Err refusal) is = tt

-- What an observer saw of the realm that the file says, it saw of the file.
pub told_from : {V : Type 0} (sees : V → Seen → V → Type 0) (content : Option (List ℕ)) (message : List ℕ) (old new : V) (realm : RealmParameters) (result : Result (Vec ℕ Global) LookupRefusal)
    → ((bytes : List ℕ) → content ≡ Some bytes → realm_said bytes ≡ Ok realm) → IfOk result (λ reply. IsTold sees (Holds content) realm.name message old new reply.items)
    → IfOk result (λ reply. IsToldFrom sees content message old new reply.items)
told_from sees content message old new realm (Ok reply) said told = (realm, said, told)
told_from sees content message old new realm (Err refusal) said told = tt

-- How an exchange with the realm ends where each step is made: with the credential that the client takes, or for want of memory.
use Rattle.std.proofs.Common.{◌≡◌, ◌&&◌, Bool, true, false, List, [], ◌∷◌, Option, None, Some, Result, Ok, Err, inl, inr, refl, sym, subst, ap, ◌∙◌}
use Rattle.asn1_leaves.specs.declared.date.GeneralizedTime.{GeneralizedTime}
use Rattle.picky_asn1.specs.Bytes.{Bytes}
use Rattle.krb_time.specs.Units.{Micros}
use Rattle.krb_messages.specs.RandomBytes.{Random}
use Rattle.krb_messages.specs.TicketGranting.{krbtgt_of}
use Rattle.krb_realm_accounts.specs.Names.{are_components, is_realm_name}
use Rattle.decision_tables.specs.Tables.{Table}
use Rattle.krb_frames.specs.declared.fault.AnswerRefusal.{AnswerRefusal}
use Rattle.krb_frames.specs.declared.fault.AnswerRefusal.TheVariants as answer_refusal
use Rattle.krb_kdc_exchanges.specs.Call.{CallRecord}
use Rattle.krb_kdc_exchanges.specs.Replies.{Replies}
use Rattle.krb_kdc_exchanges.specs.Rows.{PkinitRows}
use Rattle.krb_client.specs.AsRequest.{IsUnaskedWith, as_body_with}
use Rattle.krb_client.specs.Client.{ClientRecord, CredentialRecord}
use Rattle.krb_client.specs.Means.{MeansRecord}
use Rattle.krb_client.specs.Refusals.{IsTaken}
use Rattle.krb_client.specs.declared.options.TicketOptions.{TicketOptions}
use Rattle.krb_client.specs.declared.refusal.AskRefusal.{AskRefusal}
use Rattle.krb_client.specs.declared.refusal.AskRefusal.TheVariants as ask_refusal
use Rattle.krb_client.specs.declared.refusal.TakeRefusal.{TakeRefusal}
use Rattle.krb_client.specs.declared.refusal.TakeRefusal.TheVariants as take_refusal
use Rattle.krb_logins.specs.Honest.{Ends, IsWantOfMemory}
use Rattle.krb_logins.specs.LoginRun.{ended, followed}
use Rattle.krb_logins.specs.Steps.{IsKdcAnswered, IsUnnamed}
use Rattle.krb_logins.specs.declared.refusal.LoginRefusal.{LoginRefusal}
use Rattle.krb_logins.specs.declared.refusal.LoginRefusal.TheVariants.{Answered, Asked, Taken}

-- a step, and those behind it
pub followed_ends : {A E T : Type 0} (does : Result A E → Type 0) (told : E → LoginRefusal) (rest : A → Result T LoginRefusal → Type 0) (P : T → Type 0) (result : Result T LoginRefusal)
    → ((made : A) → does (Ok made) → rest made result → Ends P result)
    → ((refusal : E) → does (Err refusal) → IsWantOfMemory (told refusal))
    → followed does told rest result → Ends P result
followed_ends does told rest P result go stop (inl x) = go x.0 x.1 x.2
followed_ends does told rest P result go stop (inr x) = subst (Ends P) (sym x.2) (stop x.0 x.1)

-- a value is no refusal, and a reply is one
abbrev IsValue : {T E : Type 0} → Result T E → Type 0
IsValue (Ok value) = Unit {0}
IsValue (Err refusal) = ⊥

pub no_refusal : {T E : Type 0} (refusal : E) (value : T) → Err refusal ≡ Ok value → ⊥
no_refusal refusal value e = subst IsValue (sym e) tt

abbrev IsThis : {T E : Type 0} → T → Result T E → Type 0
IsThis value (Ok other) = value ≡ other
IsThis value (Err refusal) = ⊥

pub one_value : {T E : Type 0} (value other : T) → ◌≡◌ {A = Result T E} (Ok value) (Ok other) → value ≡ other
one_value {T} {E} value other e = subst (IsThis {T = T} {E = E} value) e refl

abbrev IsThisReply : Bytes → Option Bytes → Type 0
IsThisReply reply (Some other) = reply ≡ other
IsThisReply reply None = ⊥

pub one_reply : (reply other : Bytes) → Some reply ≡ Some other → reply ≡ other
one_reply reply other e = subst (IsThisReply reply) e refl

pub no_reply : (reply : Bytes) → None ≡ Some reply → ⊥
no_reply reply e = subst (IsThisReply reply) (sym e) refl

abbrev IsTrueName : Bool → Type 0
IsTrueName true = Unit {0}
IsTrueName false = ⊥

-- a ticket for a name is asked for, memory aside
pub asked_memory : (service : List Bytes) (refusal : AskRefusal) → are_components service ≡ true → IsUnnamed service refusal → refusal ≡ ask_refusal.Memory
asked_memory service refusal named (inl x) = x
asked_memory service refusal named (inr x) = absurd (subst IsTrueName (sym named ∙ x.1) tt)

-- and a first ticket for it, where the means don't refuse the request
pub first_memory : (client : ClientRecord) (options : TicketOptions) (means : MeansRecord) (service : List Bytes) (till : GeneralizedTime) (moment : Micros) (words : Random) (refusal : AskRefusal) → are_components service ≡ true
    → (means.refuses (as_body_with client (client.suite ∷ []) options service till words) moment words → ⊥) → IsUnaskedWith client (client.suite ∷ []) options means service till moment words refusal
    → refusal ≡ ask_refusal.Memory
first_memory client options means service till moment words refusal named asks (inl x) = absurd (subst IsTrueName (sym named ∙ x.1) tt)
first_memory client options means service till moment words refusal named asks (inr (inl x)) = x
first_memory client options means service till moment words refusal named asks (inr (inr x)) = absurd (asks x.1)

-- what is given by a table that gives values alone is taken, memory aside
pub taken_memory : {T : Type 0} (table : Table (Result T TakeRefusal)) (refusal : TakeRefusal) → ((taken : Result T TakeRefusal) → table.gives taken → (value : T) × (taken ≡ Ok value))
    → IsTaken table (Err refusal) → refusal ≡ take_refusal.Memory
taken_memory table take_refusal.Memory values x = refl
taken_memory table take_refusal.Unreadable values x = absurd (no_refusal _ _ (values (Err take_refusal.Unreadable) x).1)
taken_memory table (take_refusal.Refused code) values x = absurd (no_refusal _ _ (values (Err (take_refusal.Refused code)) x).1)
taken_memory table take_refusal.NotTrusted values x = absurd (no_refusal _ _ (values (Err take_refusal.NotTrusted) x).1)
taken_memory table take_refusal.NotSealed values x = absurd (no_refusal _ _ (values (Err take_refusal.NotSealed) x).1)
taken_memory table take_refusal.NotAsked values x = absurd (no_refusal _ _ (values (Err take_refusal.NotAsked) x).1)

-- what is replied to with a reply is answered, memory aside
pub answered_memory : (call : CallRecord) (rows : PkinitRows) (request : Bytes) (refusal : AnswerRefusal) → ((reply : Option Bytes) → Replies call rows request reply → (granted : Bytes) × (reply ≡ Some granted))
    → IsKdcAnswered call rows request (Err refusal) → refusal ≡ answer_refusal.Memory
unfolding IsKdcAnswered
answered_memory call rows request answer_refusal.Memory replies x = refl
answered_memory call rows request answer_refusal.Unreadable replies x = absurd (no_reply _ (replies None x).1)
answered_memory call rows request answer_refusal.Accounts replies x = absurd x

pub answered_reply : (call : CallRecord) (rows : PkinitRows) (request reply : Bytes) → IsKdcAnswered call rows request (Ok reply) → Replies call rows request (Some reply)
unfolding IsKdcAnswered
answered_reply call rows request reply x = x

-- the ticket-granting service has a name
pub granting_name : (realm : Bytes) → is_realm_name realm ≡ true → are_components (krbtgt_of realm) ≡ true
granting_name realm named = ap (λ b. b && true) named

-- an exchange by requests of a kind, of whose replies the client takes what this table says; the credential has a property
module _ (A : Type 0) (call : CallRecord) (rows : PkinitRows) (does : Result (Bytes × A) AskRefusal → Type 0) (takes : A → Bytes → Table (Result CredentialRecord TakeRefusal)) (P : CredentialRecord → Type 0) where
  abbrev behind_reply : Bytes × A → Bytes → Result CredentialRecord LoginRefusal → Type 0
  behind_reply sent reply = followed (IsTaken (takes sent.1 reply)) Taken ended

  abbrev behind_request : Bytes × A → Result CredentialRecord LoginRefusal → Type 0
  behind_request sent = followed (IsKdcAnswered call rows sent.0) Answered (behind_reply sent)

  -- the realm's reply is taken
  abbrev pub IsTakenSo : Bytes × A → Type 0
  IsTakenSo sent = (reply : Option Bytes) → Replies call rows sent.0 reply
      → (granted : Bytes) × (reply ≡ Some granted)
      × ((taken : Result CredentialRecord TakeRefusal) → (takes sent.1 granted).gives taken → (credential : CredentialRecord) × (taken ≡ Ok credential) × P credential)

  module _ (sent : Bytes × A) (taken_so : IsTakenSo sent) where
    granted_so : (reply : Option Bytes) → Replies call rows sent.0 reply → (granted : Bytes) × (reply ≡ Some granted)
    granted_so reply replied = let it = taken_so reply replied in (it.0, it.1)

    value : (reply : Bytes) (taken : Result CredentialRecord TakeRefusal) → Replies call rows sent.0 (Some reply) → (takes sent.1 reply).gives taken
        → (credential : CredentialRecord) × (taken ≡ Ok credential) × P credential
    value reply taken replied x =
        let it = taken_so (Some reply) replied in
        it.2 taken (subst (λ r. (takes sent.1 r).gives taken) (one_reply reply it.0 it.1) x)

    reply_ends : (result : Result CredentialRecord LoginRefusal) (reply : Bytes) → Replies call rows sent.0 (Some reply) → behind_reply sent reply result → Ends P result
    reply_ends result reply replied =
        followed_ends (IsTaken (takes sent.1 reply)) Taken ended P result
        (λ credential taken same.
        let it = value reply (Ok credential) replied taken in
        subst (Ends P) (sym same) (subst P (sym (one_value credential it.0 it.1)) it.2))
        (λ refusal. taken_memory (takes sent.1 reply) refusal (λ taken x. let it = value reply taken replied x in (it.0, it.1)))

    request_ends : (result : Result CredentialRecord LoginRefusal) → behind_request sent result → Ends P result
    request_ends result =
        followed_ends (IsKdcAnswered call rows sent.0) Answered (behind_reply sent) P result
        (λ reply answered. reply_ends result reply (answered_reply call rows sent.0 reply answered))
        (λ refusal. answered_memory call rows sent.0 refusal granted_so)

  pub exchange_ends : ((refusal : AskRefusal) → does (Err refusal) → refusal ≡ ask_refusal.Memory) → ((sent : Bytes × A) → does (Ok sent) → IsTakenSo sent)
      → (result : Result CredentialRecord LoginRefusal) → followed does Asked behind_request result → Ends P result
  exchange_ends unasked taken_so result =
      followed_ends does Asked behind_request P result (λ sent asked. request_ends sent (taken_so sent asked) result) unasked

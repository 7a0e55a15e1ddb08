-- What is delegated, as it is read, and the context that has it.
use Rattle.std.proofs.Common.{◌≡◌, ℕ, Bool, true, false, List, Option, None, Some, Result, Ok, Err, refl, sym, subst, inl, inr}
use Rattle.std.specs.Prelude.{not, IfErr, IfOk}
use Rattle.decision_tables.specs.Tables.{Table, and_then, ask, done, need, refuse}
use Rattle.krb_crypto.specs.Keys.{KeyRecord}
use Rattle.krb_messages.specs.declared.data_types.checksum.Checksum.{Checksum}
use Rattle.krb_messages.specs.declared.data_types.encryption_key.EncryptionKey.{EncryptionKey}
use Rattle.krb_messages.specs.declared.enc_krb_cred_part.EncKrbCredPartInner.{EncKrbCredPartInner}
use Rattle.krb_messages.specs.declared.krb_cred.KrbCredInner.{KrbCredInner}
use Rattle.krb_service.specs.Admission.{AdmissionRecord}
use Rattle.krb_tickets.specs.Keys.{key_in}
use Rattle.gss_contexts.specs.Tokens.{is_set}
use Rattle.gss_acceptor.specs.Accepting.{IsEstablished, IsEstablishedAs, delegation_to, established_of, judged}
use Rattle.gss_acceptor.specs.Delegation.{IsCredPart, IsKrbCred, cred_in, deleg_in, delegated_by, delegated_in, delegation, delegation_by, opened_cred, part_in, is_krb_cred, sole_cred_part, summed}
use Rattle.gss_acceptor.specs.Established.{EstablishedRecord}
use Rattle.gss_acceptor.specs.Negotiation.{IsRead}
use Rattle.gss_acceptor.specs.declared.checksum.ContextFlags.{ContextFlags}
use Rattle.gss_acceptor.specs.declared.context_flags.TheConstants.{DELEGATION}
use Rattle.gss_acceptor.specs.declared.delegation.Delegated.{Delegated}
use Rattle.gss_acceptor.specs.declared.judge.Judged.{Judged}
use Rattle.gss_acceptor.specs.declared.refusal.AcceptRefusal.{AcceptRefusal}
use Rattle.gss_acceptor.specs.declared.refusal.AcceptRefusal.TheVariants.{BadDelegation, Memory}
use Rattle.gss_acceptor.specs.declared.terms.AcceptorTerms.{AcceptorTerms}

-- what a table gives, and what follows it
read_then : {A T : Type 0} (t : Table (Result A AcceptRefusal)) (rest : A → Table (Result T AcceptRefusal)) (a : A) (result : Result T AcceptRefusal)
    → IsRead t.gives (Ok a) → IsRead (rest a).gives result → IsRead (and_then t rest).gives result
read_then t rest a result (inl never) x = absurd (cc (never))
read_then t rest a result (inr is) (inl memory) = inl memory
read_then t rest a result (inr is) (inr x) = inr (inl (a, is, x))

same_memory : {A T : Type 0} (refusal : AcceptRefusal) → ◌≡◌ {A = Result A AcceptRefusal} (Err refusal) (Err Memory) → ◌≡◌ {A = Result T AcceptRefusal} (Err refusal) (Err Memory)
same_memory refusal e = let same : refusal ≡ Memory = cc (e) in cc (same)

read_refused : {A T : Type 0} (t : Table (Result A AcceptRefusal)) (rest : A → Table (Result T AcceptRefusal)) (refusal : AcceptRefusal)
    → IsRead t.gives (Err refusal) → IsRead (and_then t rest).gives (Err refusal)
read_refused t rest refusal (inl memory) = inl (same_memory refusal memory)
read_refused t rest refusal (inr x) = inr (inr (refusal, x, refl))

-- by the flag
pub of_no_flag : (flags : ContextFlags) (session : EncryptionKey) (checksum : Option Checksum) → is_set flags.0 DELEGATION ≡ false
    → IsRead (delegation flags session checksum).gives (Ok None)
unfolding delegation
of_no_flag flags session checksum e =
    subst (λ (set : Bool). IsRead (delegation_by set session checksum).gives (Ok None)) (sym e) (inr refl)

pub of_flag : (flags : ContextFlags) (session : EncryptionKey) (checksum : Option Checksum) (delegated : Delegated) → is_set flags.0 DELEGATION ≡ true
    → IsRead (summed session checksum).gives (Ok delegated) → IsRead (delegation flags session checksum).gives (Ok (Some delegated))
unfolding delegation
of_flag flags session checksum delegated e x =
    subst (λ (set : Bool). IsRead (delegation_by set session checksum).gives (Ok (Some delegated))) (sym e)
    (read_then (summed session checksum) (λ it. done (Ok (Some it))) delegated (Ok (Some delegated)) x (inr refl))

pub of_bad : (flags : ContextFlags) (session : EncryptionKey) (checksum : Option Checksum) (refusal : AcceptRefusal) → is_set flags.0 DELEGATION ≡ true
    → IsRead (summed session checksum).gives (Err refusal) → IsRead (delegation flags session checksum).gives (Err refusal)
unfolding delegation
of_bad flags session checksum refusal e x =
    subst (λ (set : Bool). IsRead (delegation_by set session checksum).gives (Err refusal)) (sym e)
    (read_refused (summed session checksum) (λ it. done (Ok (Some it))) refusal x)

-- by the checksum, its octets and the key
pub of_sum : (session : EncryptionKey) (checksum : Option Checksum) (it : Checksum) (result : Result Delegated AcceptRefusal) → checksum ≡ Some it
    → IsRead (delegated_in session it.checksum.0).gives result → IsRead (summed session checksum).gives result
of_sum session checksum it result e x = subst (λ (c : Option Checksum). IsRead (summed session c).gives result) (sym e) x

pub of_no_sum : (session : EncryptionKey) (checksum : Option Checksum) → checksum ≡ None → IsRead (summed session checksum).gives (Err BadDelegation)
of_no_sum session checksum e = subst (λ (c : Option Checksum). IsRead (summed session c).gives (Err BadDelegation)) (sym e) (inr refl)

abbrev by_deleg : EncryptionKey → Option (List ℕ) → Table (Result Delegated AcceptRefusal)
by_deleg session found = need found BadDelegation (λ deleg. need (key_in session) BadDelegation (λ key. cred_in key deleg))

abbrev by_key : List ℕ → Option KeyRecord → Table (Result Delegated AcceptRefusal)
by_key deleg found = need found BadDelegation (λ key. cred_in key deleg)

pub of_deleg : (session : EncryptionKey) (octets deleg : List ℕ) (key : KeyRecord) (result : Result Delegated AcceptRefusal) → deleg_in octets ≡ Some deleg
    → key_in session ≡ Some key → IsRead (cred_in key deleg).gives result → IsRead (delegated_in session octets).gives result
of_deleg session octets deleg key result d k x =
    subst (λ (found : Option (List ℕ)). IsRead (by_deleg session found).gives result) (sym d)
    (subst (λ (found : Option KeyRecord). IsRead (by_key deleg found).gives result) (sym k) x)

pub of_no_deleg : (session : EncryptionKey) (octets : List ℕ) → deleg_in octets ≡ None → IsRead (delegated_in session octets).gives (Err BadDelegation)
of_no_deleg session octets d = subst (λ (found : Option (List ℕ)). IsRead (by_deleg session found).gives (Err BadDelegation)) (sym d) (inr refl)

pub of_no_key : (session : EncryptionKey) (octets deleg : List ℕ) → deleg_in octets ≡ Some deleg → key_in session ≡ None
    → IsRead (delegated_in session octets).gives (Err BadDelegation)
of_no_key session octets deleg d k =
    subst (λ (found : Option (List ℕ)). IsRead (by_deleg session found).gives (Err BadDelegation)) (sym d)
    (subst (λ (found : Option KeyRecord). IsRead (by_key deleg found).gives (Err BadDelegation)) (sym k) (inr refl))

-- by the message and its part
pub of_cred : (key : KeyRecord) (deleg : List ℕ) (message : KrbCredInner) (result : Result Delegated AcceptRefusal) → IsKrbCred deleg message
    → IsRead (opened_cred key message).gives result → IsRead (cred_in key deleg).gives result
of_cred key deleg message result is (inl memory) = inl memory
of_cred key deleg message result is (inr x) = inr (inl (message, is, x))

pub of_no_cred : (key : KeyRecord) (deleg : List ℕ) → ((message : KrbCredInner) → IsKrbCred deleg message → ⊥) → IsRead (cred_in key deleg).gives (Err BadDelegation)
of_no_cred key deleg none = inr (inr (none, refl))

pub of_opened : (key : KeyRecord) (message : KrbCredInner) (part : EncKrbCredPartInner) (result : Result Delegated AcceptRefusal)
    → IsRead (part_in key message).gives (Ok part) → result ≡ delegated_by message part → IsRead (opened_cred key message).gives result
of_opened key message part result is x = read_then (part_in key message) (λ it. done (delegated_by message it)) part result is (inr x)

pub of_unopened : (key : KeyRecord) (message : KrbCredInner) (refusal : AcceptRefusal) → IsRead (part_in key message).gives (Err refusal)
    → IsRead (opened_cred key message).gives (Err refusal)
of_unopened key message refusal x = read_refused (part_in key message) (λ it. done (delegated_by message it)) refusal x

abbrev by_type : KeyRecord → KrbCredInner → Bool → Table (Result EncKrbCredPartInner AcceptRefusal)
by_type key message is =
    refuse (not is) BadDelegation
    (ask (IsCredPart key message.enc_part.0) (sole_cred_part key message.enc_part.0) (done (Err BadDelegation)) (λ part. done (Ok part)))

pub of_other : (key : KeyRecord) (message : KrbCredInner) → is_krb_cred message ≡ false → IsRead (part_in key message).gives (Err BadDelegation)
of_other key message e = subst (λ (is : Bool). IsRead (by_type key message is).gives (Err BadDelegation)) (sym e) (inr refl)

pub of_part : (key : KeyRecord) (message : KrbCredInner) (part : EncKrbCredPartInner) → is_krb_cred message ≡ true → IsCredPart key message.enc_part.0 part
    → IsRead (part_in key message).gives (Ok part)
of_part key message part e x = subst (λ (is : Bool). IsRead (by_type key message is).gives (Ok part)) (sym e) (inr (inl (part, x, refl)))

pub of_no_part : (key : KeyRecord) (message : KrbCredInner) → is_krb_cred message ≡ true → ((part : EncKrbCredPartInner) → IsCredPart key message.enc_part.0 part → ⊥)
    → IsRead (part_in key message).gives (Err BadDelegation)
of_no_part key message e none = subst (λ (is : Bool). IsRead (by_type key message is).gives (Err BadDelegation)) (sym e) (inr (inr (none, refl)))

-- the context that is established with it
pub as_established : (admission : AdmissionRecord) (made : Judged) (delegated : Option Delegated) (result : Result EstablishedRecord AcceptRefusal)
    → IsRead (delegation_to admission made).gives (Ok delegated) → IfOk result (λ e. e ≡ established_of admission made delegated) → IfErr result (λ e. e ≡ Memory)
    → IsEstablishedAs admission made result
as_established admission made delegated (Ok established) (inl never) same refused = absurd (cc (never))
as_established admission made delegated (Ok established) (inr is) same refused = (delegated, is, same)
as_established admission made delegated (Err refusal) is same memory = inl memory

pub as_refused : (admission : AdmissionRecord) (made : Judged) (refusal : AcceptRefusal) → IsRead (delegation_to admission made).gives (Err refusal)
    → IsEstablishedAs admission made (Err refusal)
as_refused admission made refusal (inl memory) = inl (cc (memory))
as_refused admission made refusal (inr x) = inr x

pub as_judged : (terms : AcceptorTerms) (skew : ℕ) (words : List ℕ) (admission : AdmissionRecord) (made : Judged) (result : Result EstablishedRecord AcceptRefusal)
    → judged terms skew words admission ≡ Ok made → IsEstablishedAs admission made result → IsEstablished terms skew words admission result
as_judged terms skew words admission made (Ok established) so x = (made, so, x)
as_judged terms skew words admission made (Err refusal) so x = inr (made, so, x)

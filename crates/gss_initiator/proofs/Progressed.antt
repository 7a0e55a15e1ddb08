-- How a context stands that isn't refused.
use Rattle.std.proofs.Common.{◌≡◌, ◌⊎◌, ℕ, List, Bool, true, false, not, None, Some, Result, Ok, Err, if◌then◌else◌, refl, sym, subst, inl, inr}
use Rattle.krb_client.specs.Client.{ClientRecord, CredentialRecord}
use Rattle.gss_contexts.specs.Contexts.{ContextRecord, is_newer}
use Rattle.gss_acceptor.specs.declared.checksum.ContextFlags.{ContextFlags}
use Rattle.gss_acceptor.specs.declared.checksum.InitialChecksum.{InitialChecksum}
use Rattle.gss_initiator.specs.Checksums.{is_beyond}
use Rattle.gss_initiator.specs.Contexts.{then_judged}
use Rattle.gss_initiator.specs.Delegating.{delegating}
use Rattle.gss_initiator.specs.Initiating.{DelegatesFirst, InitiatedRecord, Initiates, InitiatesDelegating, IsProgress, IsSent, IsUndelegated, SendsFirst, delegation_refusal, pending_of, progress_of, refusal_of}
use Rattle.gss_initiator.specs.declared.initiated.Progress.{Progress}
use Rattle.gss_initiator.specs.declared.initiated.Progress.TheVariants.{ContinueNeeded, Established}
use Rattle.gss_initiator.specs.declared.initiated.TokenForm.{TokenForm}
use Rattle.gss_initiator.specs.declared.refusal.InitiateRefusal.{InitiateRefusal}
use Rattle.gss_initiator.specs.declared.refusal.InitiateRefusal.TheVariants.{Memory, NotForwarded, NotOffered, OldSuite}

-- a suite that isn't refused
newer : (beyond new : Bool) → (if beyond then Some NotOffered else (if new then None else Some OldSuite)) ≡ None → new ≡ true
newer true new e = absurd (cc (e))
newer false true e = refl
newer false false e = absurd (cc (e))

-- has a context, or waits for one
stands : (waits new : Bool) (progress : Progress) (context : ContextRecord) (refusal : InitiateRefusal) → new ≡ true
    → ◌≡◌ {A = Result Progress InitiateRefusal} (if waits then Ok progress else then_judged (if new then Ok context else Err OldSuite) (λ it. Ok (Established it))) (Err refusal) → ⊥
stands true new progress context refusal is e = absurd (cc (e))
stands false true progress context refusal is e = absurd (cc (e))
stands false false progress context refusal is e = absurd (cc (is))

no_refusal : (credential : CredentialRecord) (flags : ContextFlags) (form : TokenForm) (moment : ℕ) (words : List ℕ) (refusal : InitiateRefusal)
    → is_newer credential.suite ≡ true → progress_of (pending_of credential flags form moment words) ≡ Err refusal → ⊥
no_refusal credential flags form moment words refusal new is =
    let pending = pending_of credential flags form moment words in
    stands _ (is_newer credential.suite) (ContinueNeeded pending) _ refusal new is

-- the token is sent with how the context stands
pub sent_so : (client : ClientRecord) (credential : CredentialRecord) (initial : InitialChecksum) (form : TokenForm) (moment : ℕ) (words token : List ℕ) (result : Result InitiatedRecord InitiateRefusal)
    → refusal_of credential.suite initial.flags ≡ None → SendsFirst client credential initial form moment words token
    → IsSent token (progress_of (pending_of credential initial.flags form moment words)) result → Initiates client credential initial form moment words result
sent_so client credential initial form moment words token (Ok made) none sends (same, stands_so) =
    (none, subst (SendsFirst client credential initial form moment words) (sym same) sends, stands_so)
sent_so client credential initial form moment words token (Err refusal) none sends (inl memory) = inl memory
sent_so client credential initial form moment words token (Err refusal) none sends (inr is) =
    absurd (no_refusal credential initial.flags form moment words refusal (newer (is_beyond initial.flags) (is_newer credential.suite) none) is)

-- a delegation that isn't refused
newer_delegating : (high new forwarded : Bool) → (if high then Some NotOffered else (if not new then Some OldSuite else (if forwarded then None else Some NotForwarded))) ≡ None → new ≡ true
newer_delegating true new forwarded e = absurd (cc (e))
newer_delegating false false forwarded e = absurd (cc (e))
newer_delegating false true forwarded e = refl

pub delegated_so : (client : ClientRecord) (credential forwarded : CredentialRecord) (initial : InitialChecksum) (form : TokenForm) (moment : ℕ) (words token : List ℕ) (result : Result InitiatedRecord InitiateRefusal)
    → delegation_refusal credential.suite initial.flags forwarded ≡ None → DelegatesFirst client credential forwarded (delegating initial) form moment words token
    → IsSent token (progress_of (pending_of credential (delegating initial).flags form moment words)) result
    → InitiatesDelegating client credential forwarded initial form moment words result
delegated_so client credential forwarded initial form moment words token (Ok made) none sends (same, stands_so) =
    (none, subst (DelegatesFirst client credential forwarded (delegating initial) form moment words) (sym same) sends, stands_so)
delegated_so client credential forwarded initial form moment words token (Err refusal) none sends (inl memory) = inl memory
delegated_so client credential forwarded initial form moment words token (Err refusal) none sends (inr is) =
    absurd (no_refusal credential (delegating initial).flags form moment words refusal (newer_delegating _ (is_newer credential.suite) _ none) is)

pub undelegating : (client : ClientRecord) (credential forwarded : CredentialRecord) (initial : InitialChecksum) (form : TokenForm) (moment : ℕ) (words : List ℕ) (refusal : InitiateRefusal)
    → IsUndelegated client credential forwarded words refusal
    → InitiatesDelegating client credential forwarded initial form moment words (Err refusal)
undelegating client credential forwarded initial form moment words refusal (inl memory) = inl memory
undelegating client credential forwarded initial form moment words refusal (inr long) = inr (inr long)

pub sent_ok : (wanted : Result Progress InitiateRefusal) (progress : Progress) → IsProgress wanted (Ok progress) → wanted ≡ Ok progress
sent_ok wanted progress (inl never) = absurd (cc (never))
sent_ok wanted progress (inr is) = sym is

pub sent_err : (wanted : Result Progress InitiateRefusal) (refusal : InitiateRefusal) → IsProgress wanted (Err refusal) → (refusal ≡ Memory) ⊎ (wanted ≡ Err refusal)
sent_err wanted refusal (inl memory) = inl (cc (memory))
sent_err wanted refusal (inr is) = inr (sym is)

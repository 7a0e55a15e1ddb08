-- A reply by what is given for the request that was read is a reply of the file's realm.
use Rattle.std.proofs.Common.{◌≡◌, ◌⊎◌, ℕ, Bool, true, List, None, Option, Some, Result, Ok, Err, refl, inl, inr, sym, subst, ◌∙◌}
use Rattle.std.specs.Prelude.{Vec, IfOk, MatchResult}
use Rattle.std.specs.Global.{Global}
use Rattle.krb_realm_accounts.specs.Accounts.{Look}
use Rattle.krb_realm_accounts.specs.declared.policy.Policy.{Policy}
use Rattle.krb_kdc.specs.Answers.{IsAnswerBy}
use Rattle.krb_kdc.specs.Faults.{MayFail}
use Rattle.krb_kdc.specs.Sources.{IsByCertificate, RepliesBy}
use Rattle.krb_kdc.specs.declared.fault.LookupFault.{LookupFault}
use Rattle.krb_kdc.specs.declared.fault.LookupRefusal.{LookupRefusal}
use Rattle.krb_kdc.specs.declared.fault.LookupRefusal.TheVariants.{Unreadable, Fault}
use Rattle.krb_kdc_exchanges.specs.Call.{CallRecord}
use Rattle.krb_kdc_exchanges.specs.PkinitCalls.{AgreedRecord, PkinitCallRecord}
use Rattle.krb_kdc_exchanges.specs.Replies.{Replies}
use Rattle.krb_messages.specs.Refusals.{IsJudged}
use Rattle.krb_messages.specs.declared.messages.kdc_req.KdcReq.{KdcReq}
use Rattle.krb_messages.specs.declared.refusal.Refusal.{Refusal}
use Rattle.pkinit_validation.specs.PolicyRows.{policy_rows, same_offer}
use Rattle.pkinit_validation.specs.declared.policies.policy.GeneralPolicy.{GeneralPolicy}
use Rattle.pkinit_validation.specs.Trust.{TrustRecord}
use Rattle.rsa_keys.specs.Functions.{rsa_functions}
use Rattle.rsa_keys.specs.declared.rsa_keys.RsaKeys.{RsaKeys}
use Rattle.krb_realm_files.specs.Faults.{lookup_fault_of}
use Rattle.krb_realm_files.specs.Lacks.{FailsMeans}
use Rattle.krb_realm_files.specs.Means.{IsUnusable, general_policy, rows_of, trust_in}
use Rattle.krb_realm_files.specs.RefusedPkinit.{refused_rows}
use Rattle.krb_realm_files.specs.Replies.{ReplyBy, ReplyByRealm}
use Rattle.krb_realm_files.specs.Sources.{IsGiven, IsGivenBy, file_rows}
use Rattle.krb_realm_files.specs.declared.file_pkinit.FilePkinit.{FilePkinit}
use Rattle.krb_realm_files.specs.declared.file_pkinit.FilePkinit.TheVariants as file
use Rattle.krb_realm_files.specs.declared.means.PkinitMeans.{PkinitMeans}
use Rattle.krb_realm_files.specs.declared.pkinit_fault.PkinitFault.{PkinitFault}
use Rattle.krb_realm_files.specs.declared.pkinit_fault.PkinitFault.TheVariants as pkinit
use Rattle.krb_realm_files.specs.declared.realm_parameters.RealmParameters.{RealmParameters}
use Rattle.krb_realm_files.proofs.Unasked.{unasked}

-- The fault of octets that are refused, to a request by certificate.
pub unusable : (octets : List ℕ) (request : KdcReq) (fault : PkinitFault) → IsByCertificate request → IsUnusable octets fault
    → MayFail (λ own. IsByCertificate request × FailsMeans (Some octets) own) (lookup_fault_of fault)
unusable octets request pkinit.Memory asks is = tt
unusable octets request pkinit.NotThree asks is = (asks, (refl, (pkinit.NotThree, λ e. cc (e), is)))
unusable octets request pkinit.Certificate asks is = (asks, (refl, (pkinit.Certificate, λ e. cc (e), is)))
unusable octets request pkinit.Key asks is = (asks, (refl, (pkinit.Key, λ e. cc (e), is)))
unusable octets request (pkinit.Refused why) asks is = (asks, (refl, (pkinit.Refused why, λ e. cc (e), is)))
unusable octets request pkinit.OtherKey asks is = (asks, (refl, (pkinit.OtherKey, λ e. cc (e), is)))
unusable octets request pkinit.Anchor asks is = (asks, (refl, (pkinit.Anchor, λ e. cc (e), is)))

-- What is given by a realm's octets.
pub for_octets : (policy given : Policy) (own : Option (List ℕ)) (octets bytes : List ℕ) (request : KdcReq) (result : Result FilePkinit LookupFault)
    → given ≡ policy → own ≡ Some octets → bytes ≡ octets
    → MatchResult result (IsGivenBy given bytes request) (MayFail (λ fault. IsByCertificate request × FailsMeans (Some bytes) fault))
    → MatchResult result (IsGiven policy own request) (MayFail (λ fault. IsByCertificate request × FailsMeans own fault))
for_octets policy given own octets bytes request result same_policy has same is =
    subst (λ (p : Option (List ℕ)). MatchResult result (IsGiven policy p request) (MayFail (λ fault. IsByCertificate request × FailsMeans p fault))) (sym has)
    (subst (λ (o : List ℕ). MatchResult result (IsGivenBy policy o request) (MayFail (λ fault. IsByCertificate request × FailsMeans (Some o) fault))) same
    (subst (λ (p : Policy). MatchResult result (IsGivenBy p bytes request) (MayFail (λ fault. IsByCertificate request × FailsMeans (Some bytes) fault))) same_policy is))

-- What the means judge.
pub by_means : (policy : Option GeneralPolicy) (means : PkinitMeans) (trust : TrustRecord) (keys : RsaKeys) (call : PkinitCallRecord) (padata : List ℕ)
    (result : Result AgreedRecord Refusal) → trust ≡ trust_in means → keys ≡ means.keys
    → IsJudged ((policy_rows policy trust (rsa_functions keys.group keys.own)).judges call padata).gives result
    → IsJudged ((rows_of policy means).judges call padata).gives result
by_means policy means trust keys call padata result same_trust same_keys is =
    subst (λ (k : RsaKeys). IsJudged ((policy_rows policy (trust_in means) (rsa_functions k.group k.own)).judges call padata).gives result) same_keys
    (subst (λ (t : TrustRecord). IsJudged ((policy_rows policy t (rsa_functions keys.group keys.own)).judges call padata).gives result) same_trust is)

module _ (call : CallRecord) (message : List ℕ) where
  abbrev own_policy : Option GeneralPolicy
  own_policy = general_policy call.settings.policy

  offers : (means : PkinitMeans) (is : Bool) → is ≡ true → (refused_rows is).offered ≡ (rows_of own_policy means).offered
  offers means is offered = offered ∙ sym (same_offer own_policy (trust_in means) (rsa_functions means.keys.group means.keys.own))

  by_given : (own : Option (List ℕ)) (reply : Option (List ℕ)) → RepliesBy file_rows (IsGiven call.settings.policy own) call message reply → ReplyBy own call message reply
  unfolding Replies
  by_given None reply (inl (request, read, (given, is, x))) = subst (λ (p : FilePkinit). Replies call (file_rows p) message reply) is x
  by_given None reply (inr (none, further)) = inr (none, further)
  by_given (Some octets) reply (inl (request, read, (file.Refused own, is, x))) =
      inl (λ means. unasked call (refused_rows own.is_offered) (rows_of own_policy means) message request reply (offers means own.is_offered is.0) read is.1 x)
  by_given (Some octets) reply (inl (request, read, (file.Means means policy, are, x))) =
      inr ((request, read, are.0), (means, are.1, subst (λ (p : Option GeneralPolicy). Replies call (rows_of p means) message reply) are.2 x))
  by_given (Some octets) reply (inr (none, further)) = inl (λ means. inr (none, further))

  pub answered_by : (own : Option (List ℕ)) (result : Result (Vec ℕ Global) LookupRefusal)
      → IsAnswerBy (RepliesBy file_rows (IsGiven call.settings.policy own) call message) result
      → IsAnswerBy (ReplyBy own call message) result
  answered_by own (Ok reply) is = by_given own (Some reply.items) is
  answered_by own (Err Unreadable) is = by_given own None is
  answered_by own (Err (Fault fault)) is = tt

-- The answer of a realm.
pub by_realm : (realm : RealmParameters) (all : Look) (message : List ℕ) (moment : ℕ) (words : List ℕ) (result : Result (Vec ℕ Global) LookupRefusal)
    → IsAnswerBy (RepliesBy file_rows (IsGiven realm.settings.policy realm.pkinit) (record { realm = realm.name; settings = realm.settings; look = all; moment = moment; words = words }) message) result
    → IsAnswerBy (ReplyByRealm realm all message moment words) result
by_realm realm all message moment words =
    answered_by (record { realm = realm.name; settings = realm.settings; look = all; moment = moment; words = words }) message realm.pkinit

-- A reply by some accounts.
pub some_realm : (realm : RealmParameters) (message : List ℕ) (moment : ℕ) (words : List ℕ) (result : Result (Vec ℕ Global) LookupRefusal)
    → IfOk result (λ reply. (all : Look)
    × RepliesBy file_rows (IsGiven realm.settings.policy realm.pkinit) (record { realm = realm.name; settings = realm.settings; look = all; moment = moment; words = words }) message (Some reply.items))
    → IfOk result (λ reply. (all : Look) × ReplyByRealm realm all message moment words (Some reply.items))
some_realm realm message moment words (Ok reply) (all, x) =
    (all, by_given (record { realm = realm.name; settings = realm.settings; look = all; moment = moment; words = words }) message realm.pkinit (Some reply.items) x)
some_realm realm message moment words (Err refusal) x = tt

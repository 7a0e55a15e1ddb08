-- Who is trusted among the certificates of a reply, as the table of replies has it.
use Rattle.std.proofs.Common.{◌≡◌, ℕ, List, Result, Ok, Err, inl, inr, refl, sym, subst}
use Rattle.picky_asn1_der.specs.Raw.{Raw}
use Rattle.x509_keys.specs.KeyFunctions.{KeysRecord}
use Rattle.cms_signed_data.specs.GeneralContents.{GeneralParts}
use Rattle.krb_messages.specs.TicketGranting.{krbtgt_of}
use Rattle.pkinit_validation.specs.Expected.{ExpectedRecord}
use Rattle.pkinit_validation.specs.GeneralTrust.{certificates_of, trusted_among}
use Rattle.pkinit_validation.specs.Refusals.{IsOutcome}
use Rattle.pkinit_validation.specs.declared.refusal.TrustFault.{TrustFault}
use Rattle.pkinit_validation.specs.declared.refusal.TrustFault.TheVariants.{Refused, Memory}
use Rattle.pkinit_clients.specs.AgileReplies.{general_signed_by}
use Rattle.pkinit_clients.specs.Asked.{PkinitAskedRecord, expected_realm}
use Rattle.pkinit_clients.specs.Faults.{IsTakenAs, fault_of}
use Rattle.pkinit_clients.specs.declared.fault.ReplyFault.{ReplyFault}

module _ (keys : KeysRecord) (expected : ExpectedRecord) (content : GeneralParts) (listed : List Raw) (same : listed ≡ certificates_of content) where
  pub signed : (trusted_among keys expected content listed).gives (Ok tt) → IsTakenAs (general_signed_by keys expected content).gives (Ok tt)
  signed is = inl (tt, subst (λ (l : List Raw). (trusted_among keys expected content l).gives (Ok tt)) same is, refl)

  refused : (fault : TrustFault) → IsOutcome (trusted_among keys expected content listed).gives (Err fault)
      → IsTakenAs (general_signed_by keys expected content).gives (Err (fault_of fault))
  refused (Refused refusal) is = inr (refusal, subst (λ (l : List Raw). (trusted_among keys expected content l).gives (Err refusal)) same is, refl)
  refused Memory is = tt

  pub refused_as : (fault : TrustFault) (told : ReplyFault) → told ≡ fault_of fault → IsOutcome (trusted_among keys expected content listed).gives (Err fault)
      → IsTakenAs (general_signed_by keys expected content).gives (Err told)
  refused_as fault told is outcome =
      subst (λ (f : ReplyFault). IsTakenAs (general_signed_by keys expected content).gives (Err f)) (sym is) (refused fault outcome)

-- the signer is expected under the name of the realm's ticket-granting service
pub signed_as : (keys : KeysRecord) (asked : PkinitAskedRecord) (content : GeneralParts) (name : List (List ℕ)) → name ≡ krbtgt_of asked.realm
    → (answer : Result (Unit {0}) ReplyFault)
    → IsTakenAs (general_signed_by keys (record { realm = asked.realm; name = name; anchor = asked.anchor; moment = asked.moment }) content).gives answer
    → IsTakenAs (general_signed_by keys (expected_realm asked) content).gives answer
signed_as keys asked content name same answer is =
    subst (λ (n : List (List ℕ)). IsTakenAs (general_signed_by keys (record { realm = asked.realm; name = n; anchor = asked.anchor; moment = asked.moment }) content).gives answer) same is

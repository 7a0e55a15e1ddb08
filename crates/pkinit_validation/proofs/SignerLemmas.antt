-- Who is trusted, as the table of requests has it.
use Rattle.std.proofs.Common.{◌≡◌, Ok, Err, inl, inr, refl, sym, subst}
use Rattle.x509_keys.specs.KeyFunctions.{KeysRecord}
use Rattle.cms_signed_data.specs.SignedParts.{SignedParts}
use Rattle.krb_messages.specs.Refusals.{IsJudged}
use Rattle.krb_messages.specs.declared.refusal.Refusal.{Refusal}
use Rattle.pkinit_validation.specs.Expected.{ExpectedRecord}
use Rattle.pkinit_validation.specs.Judged.{JudgedRecord}
use Rattle.pkinit_validation.specs.Refusals.{IsOutcome, request_refusal}
use Rattle.pkinit_validation.specs.SignedContents.{judged_in}
use Rattle.pkinit_validation.specs.Trusted.{trusted}
use Rattle.pkinit_validation.specs.declared.refusal.TrustFault.{TrustFault}
use Rattle.pkinit_validation.specs.declared.refusal.TrustFault.TheVariants.{Refused, Memory}
use Rattle.pkinit_validation.specs.PkinitTable.{signed_by_client}

module _ (keys : KeysRecord) (expected : ExpectedRecord) (content : SignedParts) (judged : JudgedRecord) (same : judged ≡ judged_in content) where
  pub signed : (trusted keys expected judged).gives (Ok tt) → IsJudged (signed_by_client keys expected content).gives (Ok tt)
  signed is = inl (tt, subst (λ (j : JudgedRecord). (trusted keys expected j).gives (Ok tt)) same is, refl)

  refused : (fault : TrustFault) → IsOutcome (trusted keys expected judged).gives (Err fault) → IsJudged (signed_by_client keys expected content).gives (Err (request_refusal fault))
  refused (Refused refusal) is = inr (refusal, subst (λ (j : JudgedRecord). (trusted keys expected j).gives (Err refusal)) same is, refl)
  refused Memory is = tt

  pub refused_as : (fault : TrustFault) (refusal : Refusal) → refusal ≡ request_refusal fault → IsOutcome (trusted keys expected judged).gives (Err fault)
      → IsJudged (signed_by_client keys expected content).gives (Err refusal)
  refused_as fault refusal is outcome =
      subst (λ (r : Refusal). IsJudged (signed_by_client keys expected content).gives (Err r)) (sym is) (refused fault outcome)

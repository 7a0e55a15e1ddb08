-- What was read and judged is an outcome of the table.
use Rattle.std.proofs.Common.{◌≡◌, ℕ, List, Option, None, Some, Result, Ok, Err, refl, subst, inl, inr}
use Rattle.std.specs.Borrow.{Bor}
use Rattle.picky_asn1.specs.Bytes.{Bytes}
use Rattle.x509_codec.specs.Answers.{ReadsSpelling}
use Rattle.x509_spelling.specs.declared.fault.X509Fault.{X509Fault}
use Rattle.x509_spelling.specs.declared.fault.X509Fault.TheVariants as x509
use Rattle.x509_certificates.specs.declared.certificate.Certificate.{Certificate}
use Rattle.x509_certificates.specs.contracts.certificate.CertificateSpelled.TheImpl as certificate_impl
use Rattle.x509_keys.specs.KeyFunctions.{KeysRecord}
use Rattle.pkinit_validation.specs.Certificates.{GivesOf, IsCertificate, IsFoundSigned, ReadRecord}
use Rattle.pkinit_validation.specs.Expected.{ExpectedRecord}
use Rattle.pkinit_validation.specs.Judged.{JudgedRecord}
use Rattle.pkinit_validation.specs.Refusals.{IsOutcome}
use Rattle.pkinit_validation.specs.Trusted.{trusted, trusted_by}
use Rattle.pkinit_validation.specs.declared.refusal.TrustFault.{TrustFault}
use Rattle.pkinit_validation.specs.declared.refusal.TrustFault.TheVariants.{Refused, Memory}
use Rattle.pkinit_validation.specs.declared.refusal.TrustRefusal.{TrustRefusal}
use Rattle.pkinit_validation.specs.declared.refusal.TrustRefusal.TheVariants.{CantVerifyCertificate}

pub was_read : {T : Type 0} (spells : T → List ℕ → ℕ → Type 0) (bytes : List ℕ) (value : T) → ReadsSpelling spells bytes (Ok value) → (n : ℕ) × spells value bytes n
was_read spells bytes value (inl memory) = absurd (cc (memory))
was_read spells bytes value (inr reads) = (reads value).0 refl

pub none_read : {T : Type 0} (spells : T → List ℕ → ℕ → Type 0) (bytes : List ℕ) (fault : X509Fault) → (fault ≡ x509.Memory → ⊥)
    → ReadsSpelling spells bytes (Err fault) → (value : T) (n : ℕ) → spells value bytes n → ⊥
none_read spells bytes fault other (inl memory) value n s = other (cc (memory))
none_read {T} spells bytes fault other (inr reads) value n s = let found : Err fault ≡ Ok value = (reads value).1 (n, s) in cc (found)

-- an outcome of one relation is an outcome of a weaker one
pub outcome_as : {A : Type 0} (P Q : Result A TrustRefusal → Type 0) → ((r : Result A TrustRefusal) → P r → Q r)
    → (answer : Result A TrustFault) → IsOutcome P answer → IsOutcome Q answer
outcome_as P Q weaker (Ok value) is = weaker (Ok value) is
outcome_as P Q weaker (Err (Refused refusal)) is = weaker (Err refusal) is
outcome_as P Q weaker (Err Memory) is = is

-- the exits of a function that reads a value and judges by it
pub none_found : {T : Type 0} (spells : T → List ℕ → ℕ → Type 0) (bytes certificate : Bytes) (found : Option (T × Bor Bytes))
    → IsFoundSigned spells bytes found → found ≡ None → bytes ≡ certificate → (value : T) (n : ℕ) → spells value certificate n → ⊥
none_found {T} spells bytes certificate found is none same =
    subst (λ (b : Bytes). (value : T) (n : ℕ) → spells value b n → ⊥) same (subst (λ (f : Option (T × Bor Bytes)). IsFoundSigned spells bytes f) none is)

pub judged_in : {T A : Type 0} (spells : T → List ℕ → ℕ → Type 0) (bytes certificate : Bytes) (refusal : TrustRefusal) (judged_by : T → Bytes → Result A TrustRefusal → Type 0)
    (found : Option (T × Bor Bytes)) (value : T) (signed : Bor Bytes) → IsFoundSigned spells bytes found → found ≡ Some (value, signed) → bytes ≡ certificate
    → (answer : Result A TrustFault) → IsOutcome (judged_by value signed.now) answer → IsOutcome (GivesOf spells certificate refusal judged_by) answer
judged_in {T} spells bytes certificate refusal judged_by found value signed is some same answer judged =
    let there : IsFoundSigned spells bytes (Some (value, signed)) = subst (λ (f : Option (T × Bor Bytes)). IsFoundSigned spells bytes f) some is in
    let at_place : IsFoundSigned spells certificate (Some (value, signed)) = subst (λ (b : Bytes). IsFoundSigned spells b (Some (value, signed))) same there in
    outcome_as (judged_by value signed.now) (GivesOf spells certificate refusal judged_by)
    (λ r given. inl (value, signed.now, at_place.0, at_place.1, given)) answer judged

-- where the value is a certificate, the outcome is the table's
abbrev pub certificate_gives : KeysRecord → ExpectedRecord → JudgedRecord → Certificate → Bytes → Result (Unit {0}) TrustRefusal → Type 0
certificate_gives keys expected judged value part =
    (trusted_by keys expected judged (record { certificate = value; signed = part })).gives

pub trusted_as : (keys : KeysRecord) (expected : ExpectedRecord) (judged : JudgedRecord) (answer : Result (Unit {0}) TrustFault)
    → IsOutcome (GivesOf certificate_impl.ghosts.spells judged.certificate CantVerifyCertificate (certificate_gives keys expected judged)) answer
    → IsOutcome (trusted keys expected judged).gives answer
trusted_as keys expected judged answer =
    outcome_as (GivesOf certificate_impl.ghosts.spells judged.certificate CantVerifyCertificate (certificate_gives keys expected judged))
    (trusted keys expected judged).gives
    (λ r is. elim is [
      | inl found ↦
          let read : ReadRecord = record { certificate = found.0; signed = found.1 } in
          let there : IsCertificate judged.certificate read = record { count = found.2.0; spelled = found.2.1; part = found.3 } in
          inl (read, there, found.4)
      | inr none ↦ inr (λ read is_read. none.0 read.certificate is_read.count is_read.spelled, none.1)
    ]) answer

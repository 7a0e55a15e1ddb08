-- A realm's settings: its limits; and for clients that authenticate by certificate, whom it trusts to issue their certificates, and its
-- own certificate (RFC 4556).
use Rattle.std.specs.Prelude.{ℕ, Bool, true, false, Option, None, Some}
use Rattle.picky_asn1.specs.Bytes.{Bytes}
use Rattle.krb_time.specs.Units.{Seconds}
use Rattle.krb_realm_accounts.specs.Settings.{SettingsRecord}
use Rattle.krb_realm_accounts.specs.declared.policy.Policy.{Policy}
use Rattle.krb_realm_accounts.specs.declared.policy.TheConstants.{NO_POLICY}
use Rattle.x509_certificates.specs.declared.certificate.Certificate.{Certificate}
use Rattle.x509_certificates.specs.contracts.certificate.CertificateSpelled.TheImpl as certificate_impl
use Rattle.pkinit_validation.specs.Anchors.{AnchorRecord}
use Rattle.pkinit_validation.specs.Trust.{TrustRecord}

pub record SettingsState : Type 0 where
  pub limits : SettingsRecord
  pub trust : TrustRecord

-- the bytes are a spelling of a certificate, with any count of deviations; or of none
abbrev pub IsCertificateIf : Bytes → Bool → Type 0
IsCertificateIf bytes true = (certificate : Certificate) × (count : ℕ) × certificate_impl.ghosts.spells certificate bytes count
IsCertificateIf bytes false = (certificate : Certificate) (count : ℕ) → ¬ certificate_impl.ghosts.spells certificate bytes count

-- an own certificate, where there is one, is a certificate
abbrev pub IsOwnCertificate : Option Bytes → Type 0
IsOwnCertificate None = Unit {0}
IsOwnCertificate (Some bytes) = IsCertificateIf bytes true

-- settings by these
abbrev pub settings_by : Seconds → Seconds → Option AnchorRecord → Option Bytes → SettingsState
settings_by skew lifetime anchor certificate = record {
  limits = record { skew = skew; lifetime = lifetime; policy = NO_POLICY };
  trust = record { anchor = anchor; certificate = certificate };
}

-- the same settings with this policy
abbrev pub with_policy : Policy → SettingsState → SettingsState
with_policy policy own = record {
  limits = record { skew = own.limits.skew; lifetime = own.limits.lifetime; policy = policy };
  trust = own.trust;
}

-- no authority is trusted: clients authenticate by password alone
abbrev pub no_trust : TrustRecord
no_trust = record { anchor = None; certificate = None }

-- Whether bytes are a certificate.
use Rattle.std.proofs.Common.{◌≡◌, Bool, false, true, Option, Some, Ok, Err, refl, sym, subst, inl, inr}
use Rattle.picky_asn1.specs.Bytes.{Bytes}
use Rattle.x509_certificates.specs.contracts.certificate.CertificateSpelled.TheImpl as certificate_impl
use Rattle.x509_spelling.specs.declared.fault.X509Fault.{X509Fault}
use Rattle.x509_spelling.specs.declared.fault.X509Fault.TheVariants.{Memory}
use Rattle.pkinit_validation.specs.Anchors.{AnchorRecord, ReadsMade, anchor_of}
use Rattle.krb_memory_realms.specs.Settings.{IsCertificateIf, IsOwnCertificate}

-- they are the certificate of the holder that was made
pub is_one : (bytes : Bytes) (holder : AnchorRecord) → ReadsMade certificate_impl.ghosts.spells anchor_of bytes (Ok holder) → IsCertificateIf bytes true
is_one bytes holder (inl memory) = absurd (cc (memory))
is_one bytes holder (inr reads) = let made = (reads holder).0 refl in (made.0, made.1, made.2)

-- where no holder was made, and memory was there, they are none
pub is_none : (bytes : Bytes) (fault : X509Fault) → (fault ≡ Memory → ⊥) → ReadsMade certificate_impl.ghosts.spells anchor_of bytes (Err fault) → IsCertificateIf bytes false
is_none bytes fault other (inl memory) certificate count s = other (cc (memory))
is_none bytes fault other (inr reads) certificate count s =
    let made : Err fault ≡ Ok (anchor_of certificate) = (reads (anchor_of certificate)).1 (certificate, count, s, refl) in
    cc (made)

-- what is given for an own certificate is none
pub no_certificate : (bytes : Bytes) (given : Option Bytes) (is : Bool) → given ≡ Some bytes → IsCertificateIf bytes is → is ≡ false → ¬ IsOwnCertificate given
no_certificate bytes given is same told none =
    subst (λ g. ¬ IsOwnCertificate g) (sym same) (λ own. subst (λ i. IsCertificateIf bytes i) none told own.0 own.1 own.2)

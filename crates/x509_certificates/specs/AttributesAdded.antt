-- Requests with a further attribute.
use Rattle.std.specs.Prelude.{◌≡◌, List, [], ◌∷◌, ◌++◌}
use Rattle.x509_certificates.specs.declared.attribute.Attribute.{Attribute}
use Rattle.x509_certificates.specs.declared.certification_request_info.CertificationRequestInfo.{CertificationRequestInfo}

-- the request is the old one with the attribute added after the others
abbrev pub IsAdded : CertificationRequestInfo → Attribute → CertificationRequestInfo → Type 0
IsAdded old attribute new =
    (new.subject ≡ old.subject) × (new.subject_public_key_info ≡ old.subject_public_key_info) × (new.attributes.0 ≡ old.attributes.0 ++ (attribute ∷ []))

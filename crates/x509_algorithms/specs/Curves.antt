-- An elliptic curve as its identifier.
use Rattle.std.proofs.Common.{◌≡◌, ap}
use Rattle.picky_asn1.specs.declared.wrapper.ObjectIdentifierAsn1.{ObjectIdentifierAsn1}
use Rattle.x509_algorithms.specs.declared.ec_parameters.EcParameters.{EcParameters}
use Rattle.x509_algorithms.specs.declared.ec_parameters.EcParameters.TheVariants.{NamedCurve}

-- The object identifier of the named curve (RFC 5480, section 2.1.1).
abbrev pub curve : EcParameters → ObjectIdentifierAsn1
curve (NamedCurve oid) = oid

pub one_curve : (v w : EcParameters) → curve v ≡ curve w → v ≡ w
one_curve (NamedCurve v) (NamedCurve w) e = ap NamedCurve e

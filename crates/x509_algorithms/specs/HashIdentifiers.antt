-- The identifier of a hash, with NULL, and a digest after it.
use Rattle.std.proofs.Common.{◌≡◌, ℕ, Bool, true, false, List, refl, ap}
use Rattle.std.proofs.Props.{props}
use Rattle.std.specs.Prelude.{◌&&◌, not, ⊤, IsTrue}
use Rattle.std.proofs.lemmas.Bool.{and_parts}
use mathlib.Core.HLevel.{is_prop→PathP}
use Rattle.asn1_leaves.specs.ObjectIdentifier.{oid_content}
use Rattle.picky_asn1.specs.declared.wrapper.ObjectIdentifierAsn1.{ObjectIdentifierAsn1}
use Rattle.x509_spelling.specs.declared.implied.Implied.{Implied}
use Rattle.x509_spelling.specs.declared.kinds.LastKind.{LastKind}
use Rattle.x509_algorithms.specs.declared.hash_identifier.HashIdentifier.{HashIdentifier}
use Rattle.x509_algorithms.specs.declared.algorithm_kinds.AlgorithmIdentifierParameters.{AlgorithmIdentifierParameters}
use Rattle.x509_algorithms.specs.declared.algorithm_kinds.AlgorithmIdentifierParameters.TheVariants as kind
use Rattle.x509_algorithms.specs.AlgorithmClasses.{is_rsa, is_hash, is_signature, is_plain, is_curve_key, is_pss, is_aes}
use Rattle.x509_algorithms.specs.AlgorithmKinds.{belongs, null_kind, none_kind, is_parameters_of}

abbrev pub HashRow : Type 0
HashRow = ObjectIdentifierAsn1 × LastKind (Implied ⊤ × ⊤)

abbrev pub hash_row : HashIdentifier → HashRow
hash_row v = (v.oid, record { 0 = (record { 0 = tt }, tt) })

-- a hash is distinguished by its identifier
pub same_hash : (v w : HashIdentifier) → v.oid ≡ w.oid → v ≡ w
same_hash v w ids =
    λ i. record {
      oid = ids i;
      of_a_hash = is_prop→PathP (λ j. IsTrue (is_hash (oid_content (ids j).0))) (λ j. hlevel props) v.of_a_hash w.of_a_hash i;
    }

pub same_hash_row : (v w : HashIdentifier) → hash_row v ≡ hash_row w → v ≡ w
same_hash_row v w e = same_hash v w (ap (λ (f : HashRow). f.0) e)

both : (a b : Bool) → a ≡ false → b ≡ true → (not a && b) ≡ true
both false b e is = is
both true b e is = absurd (cc (e))

null_belongs : (arcs : List ℕ) (of_rsa : Bool) → is_rsa (oid_content arcs) ≡ of_rsa → is_hash (oid_content arcs) ≡ true → IsTrue (belongs arcs (null_kind of_rsa))
null_belongs arcs true rsa hash = rsa
null_belongs arcs false rsa hash = both (is_rsa (oid_content arcs)) (is_hash (oid_content arcs)) rsa hash

-- a hash has NULL
pub hash_null_of : (arcs : List ℕ) → IsTrue (is_hash (oid_content arcs)) → IsTrue (is_parameters_of arcs kind.Null)
hash_null_of arcs is = null_belongs arcs (is_rsa (oid_content arcs)) refl is

later : (rsa hash other : Bool) → (not rsa && (not hash && other)) ≡ true → hash ≡ true → ⊥
later rsa true other is hash = let rest = and_parts (not rsa) false is in cc (rest.1)
later rsa false other is hash = cc (hash)

none_not : (arcs : List ℕ) (of_signature : Bool) → IsTrue (belongs arcs (none_kind of_signature)) → is_hash (oid_content arcs) ≡ true → ⊥
none_not arcs true is hash = later (is_rsa (oid_content arcs)) (is_hash (oid_content arcs)) (is_signature (oid_content arcs)) is hash
none_not arcs false is hash =
    later (is_rsa (oid_content arcs)) (is_hash (oid_content arcs)) (not (is_signature (oid_content arcs)) && is_plain (oid_content arcs)) is hash

-- and nothing else
pub hash_parameters : (arcs : List ℕ) (v : AlgorithmIdentifierParameters) → IsTrue (is_parameters_of arcs v) → IsTrue (is_hash (oid_content arcs)) → v ≡ kind.Null
hash_parameters arcs kind.Null is hash = refl
hash_parameters arcs kind.None is hash = absurd (none_not arcs (is_signature (oid_content arcs)) is hash)
hash_parameters arcs (kind.Ec curve) is hash =
    absurd (later (is_rsa (oid_content arcs)) (is_hash (oid_content arcs))
    (not (is_signature (oid_content arcs)) && (not (is_plain (oid_content arcs)) && is_curve_key (oid_content arcs))) is hash)
hash_parameters arcs (kind.RsassaPss params) is hash =
    absurd (later (is_rsa (oid_content arcs)) (is_hash (oid_content arcs))
    (not (is_signature (oid_content arcs)) && (not (is_plain (oid_content arcs)) && (not (is_curve_key (oid_content arcs)) && is_pss (oid_content arcs)))) is hash)
hash_parameters arcs (kind.Aes params) is hash =
    absurd (later (is_rsa (oid_content arcs)) (is_hash (oid_content arcs))
    (not (is_signature (oid_content arcs)) && (not (is_plain (oid_content arcs)) && (not (is_curve_key (oid_content arcs)) && (not (is_pss (oid_content arcs)) && is_aes (oid_content arcs))))) is hash)

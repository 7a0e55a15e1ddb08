-- The parameters of algorithms as kinds: the identifier decides which.
use Rattle.std.proofs.Common.{◌≡◌, ℕ, Bool, true, false, List, refl, sym, ap}
use Rattle.std.specs.Prelude.{◌&&◌, not, ⊤, IsTrue}
use Rattle.std.proofs.lemmas.Bool.{and_parts}
use Rattle.asn1_leaves.specs.ObjectIdentifier.{oid_content}
use Rattle.asn1_der.specs.Tree.{Trees}
use Rattle.x509_spelling.specs.declared.implied.Implied.{Implied}
use Rattle.picky_asn1_der.specs.declared.default.DefaultField.{DefaultField}
use Rattle.x509_spelling.specs.declared.kinds.KindOf.{KindOf}
use Rattle.x509_spelling.specs.declared.kinds.KindOf.TheVariants.{This, Other}
use Rattle.x509_spelling.specs.declared.kinds.LastKind.{LastKind}
use Rattle.x509_spelling.specs.Kinds.{case_belongs}
use Rattle.x509_algorithms.specs.declared.aes_parameters.AesParameters.{AesParameters}
use Rattle.x509_algorithms.specs.declared.ec_parameters.EcParameters.{EcParameters}
use Rattle.x509_algorithms.specs.declared.rsassa_pss_params.RsassaPssParams.{RsassaPssParams}
use Rattle.x509_algorithms.specs.declared.algorithm_kinds.AlgorithmIdentifierParameters.{AlgorithmIdentifierParameters}
use Rattle.x509_algorithms.specs.declared.algorithm_kinds.AlgorithmIdentifierParameters.TheVariants as kind
use Rattle.x509_algorithms.specs.AlgorithmClasses.{is_rsa, is_hash, is_signature, is_plain, is_curve_key, is_pss, is_aes}

-- NULL of the RSA family, NULL of a hash, none where NULL may stand, none, a curve, RSASSA-PSS, AES
abbrev pub AlgorithmKinds : Type 0
AlgorithmKinds =
    KindOf (Implied ⊤ × ⊤) (KindOf (⊤ × ⊤) (KindOf (DefaultField ⊤ × ⊤) (KindOf ⊤
    (KindOf (EcParameters × ⊤) (KindOf (RsassaPssParams × ⊤) (LastKind (AesParameters × ⊤)))))))

-- The parameters of an AlgorithmIdentifier are of the kind that its identifier decides, and an unknown algorithm is refused (RFC 5280,
-- section 4.1.1.2). Test: `300606022A030500` of `standards.txt`, `300F06092A864886F70D01010106022A03` of `standards.txt`.
abbrev pub belongs : List ℕ → AlgorithmKinds → Bool
belongs =
    case_belongs (λ arcs. is_rsa (oid_content arcs)) (case_belongs (λ arcs. is_hash (oid_content arcs)) (case_belongs (λ arcs. is_signature (oid_content arcs))
    (case_belongs (λ arcs. is_plain (oid_content arcs)) (case_belongs (λ arcs. is_curve_key (oid_content arcs)) (case_belongs (λ arcs. is_pss (oid_content arcs))
    (λ arcs (last : LastKind (AesParameters × ⊤)). is_aes (oid_content arcs)))))))

abbrev pub null_kind : Bool → AlgorithmKinds
null_kind true = This (record { 0 = tt }, tt)
null_kind false = Other (This (tt, tt))

abbrev pub none_kind : Bool → AlgorithmKinds
none_kind true = Other (Other (This (record { 0 = tt }, tt)))
none_kind false = Other (Other (Other (This tt)))

abbrev pub kinds_by : Bool → Bool → AlgorithmIdentifierParameters → AlgorithmKinds
kinds_by of_rsa of_signature kind.None = none_kind of_signature
kinds_by of_rsa of_signature kind.Null = null_kind of_rsa
kinds_by of_rsa of_signature (kind.Aes params) = Other (Other (Other (Other (Other (Other (record { 0 = (params, tt) }))))))
kinds_by of_rsa of_signature (kind.Ec curve) = Other (Other (Other (Other (This (curve, tt)))))
kinds_by of_rsa of_signature (kind.RsassaPss params) = Other (Other (Other (Other (Other (This (params, tt))))))

-- the parameters as one of seven kinds: NULL and none are of two each, which the identifier tells apart
abbrev pub kinds_of : List ℕ → AlgorithmIdentifierParameters → AlgorithmKinds
kinds_of arcs parameters = kinds_by (is_rsa (oid_content arcs)) (is_signature (oid_content arcs)) parameters

-- the parameters are of the kind that the identifier decides
abbrev pub is_parameters_of : List ℕ → AlgorithmIdentifierParameters → Bool
is_parameters_of arcs parameters = belongs arcs (kinds_of arcs parameters)

abbrev pub parameters_made : AlgorithmKinds → AlgorithmIdentifierParameters
parameters_made (This fields) = kind.Null
parameters_made (Other (This fields)) = kind.Null
parameters_made (Other (Other (This fields))) = kind.None
parameters_made (Other (Other (Other (This fields)))) = kind.None
parameters_made (Other (Other (Other (Other (This fields))))) = kind.Ec fields.0
parameters_made (Other (Other (Other (Other (Other (This fields)))))) = kind.RsassaPss fields.0
parameters_made (Other (Other (Other (Other (Other (Other last)))))) = kind.Aes last.0.0

null_back : (b : Bool) → parameters_made (null_kind b) ≡ kind.Null
null_back true = refl
null_back false = refl

none_back : (b : Bool) → parameters_made (none_kind b) ≡ kind.None
none_back true = refl
none_back false = refl

pub parameters_back : (arcs : List ℕ) (v : AlgorithmIdentifierParameters) → parameters_made (kinds_of arcs v) ≡ v
parameters_back arcs kind.None = none_back (is_signature (oid_content arcs))
parameters_back arcs kind.Null = null_back (is_rsa (oid_content arcs))
parameters_back arcs (kind.Aes params) = refl
parameters_back arcs (kind.Ec curve) = refl
parameters_back arcs (kind.RsassaPss params) = refl

-- what the identifier's kind is made of is that kind

not_is : (b : Bool) → not b ≡ true → b ≡ false
not_is true e = absurd (cc (e))
not_is false e = refl

pub rsa_null : (arcs : List ℕ) (fields : Implied ⊤ × ⊤) → IsTrue (belongs arcs (This fields)) → kinds_of arcs kind.Null ≡ This fields
rsa_null arcs fields is = ap null_kind is

pub hash_null : (arcs : List ℕ) (fields : ⊤ × ⊤) → IsTrue (belongs arcs (Other (This fields))) → kinds_of arcs kind.Null ≡ Other (This fields)
hash_null arcs fields is =
    let parts = and_parts (not (is_rsa (oid_content arcs))) (is_hash (oid_content arcs)) is in
    ap null_kind (not_is (is_rsa (oid_content arcs)) parts.0)

pub signature_none : (arcs : List ℕ) (fields : DefaultField ⊤ × ⊤) → IsTrue (belongs arcs (Other (Other (This fields)))) → kinds_of arcs kind.None ≡ Other (Other (This fields))
signature_none arcs fields is =
    let rest = and_parts (not (is_rsa (oid_content arcs))) (not (is_hash (oid_content arcs)) && is_signature (oid_content arcs)) is in
    let parts = and_parts (not (is_hash (oid_content arcs))) (is_signature (oid_content arcs)) rest.1 in
    ap none_kind parts.1

pub plain_none : (arcs : List ℕ) (fields : ⊤) → IsTrue (belongs arcs (Other (Other (Other (This fields))))) → kinds_of arcs kind.None ≡ Other (Other (Other (This fields)))
plain_none arcs fields is =
    let rest = and_parts (not (is_rsa (oid_content arcs))) (not (is_hash (oid_content arcs)) && (not (is_signature (oid_content arcs)) && is_plain (oid_content arcs))) is in
    let later = and_parts (not (is_hash (oid_content arcs))) (not (is_signature (oid_content arcs)) && is_plain (oid_content arcs)) rest.1 in
    let parts = and_parts (not (is_signature (oid_content arcs))) (is_plain (oid_content arcs)) later.1 in
    ap none_kind (not_is (is_signature (oid_content arcs)) parts.0)

either_way : (trees : AlgorithmKinds → Trees) (made : Bool → AlgorithmKinds) → trees (made true) ≡ trees (made false) → (a b : Bool) → trees (made a) ≡ trees (made b)
either_way trees made same true true = refl
either_way trees made same true false = same
either_way trees made same false true = sym same
either_way trees made same false false = refl

-- NULL is written alike in both kinds, and none too
pub same_trees : (trees : AlgorithmKinds → Trees) → trees (null_kind true) ≡ trees (null_kind false) → trees (none_kind true) ≡ trees (none_kind false)
    → (left right also other : Bool) (v : AlgorithmIdentifierParameters) → trees (kinds_by left right v) ≡ trees (kinds_by also other v)
same_trees trees null none left right also other kind.None = either_way trees none_kind none right other
same_trees trees null none left right also other kind.Null = either_way trees null_kind null left also
same_trees trees null none left right also other (kind.Aes params) = refl
same_trees trees null none left right also other (kind.Ec curve) = refl
same_trees trees null none left right also other (kind.RsassaPss params) = refl

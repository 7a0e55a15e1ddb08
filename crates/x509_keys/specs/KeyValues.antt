-- Private keys as octet strings that hold them, each kind told from the others (RFC 5958, section 2).
use Rattle.std.proofs.Common.{◌≡◌, ℕ, List, [], ◌∷◌, ◌++◌, refl, sym, ◌∙◌, arith}
use Rattle.asn1_der.specs.Length.{element}
use Rattle.asn1_der.specs.Tree.{Tree, Trees, primitive, constructed, absent, none, more, bare, der, ders, IsWhole, wrapped}
use Rattle.asn1_der.specs.Firsts.{only, BeginsAmong}
use Rattle.asn1_der.proofs.Elements.{element-one, element-content}
use Rattle.asn1_der.proofs.Spelling.{IsInjective, heads, der-wrapped, wrapped-whole, wrapped-begins, wrapped-injective}
use Rattle.asn1_der.proofs.Choices.{apart-spelled}
use Rattle.x509_keys.specs.declared.ec_private_key.ECPrivateKey.{ECPrivateKey}
use Rattle.x509_keys.specs.declared.rsa_private_key.RsaPrivateKey.{RsaPrivateKey}
use Rattle.x509_keys.specs.declared.private_key_value.PrivateKeyValue.{PrivateKeyValue}
use Rattle.x509_keys.specs.declared.private_key_value.PrivateKeyValue.TheVariants as kind
use Rattle.asn1_der.specs.Octets.{integer_octet, octet_string_octet, sequence_octet}

-- an octet string that holds the key
abbrev pub value_tree : (RsaPrivateKey → Tree) → (ECPrivateKey → Tree) → (List ℕ → Tree) → PrivateKeyValue → Tree
value_tree rsa ec ed (kind.Rsa key) = wrapped octet_string_octet (rsa key.0)
value_tree rsa ec ed (kind.EC key) = wrapped octet_string_octet (ec key.0)
value_tree rsa ec ed (kind.ED key) = wrapped octet_string_octet (ed key.0)

-- what follows the first part
abbrev rest_of_parts : Trees → Trees
rest_of_parts (more part parts) = parts
rest_of_parts (bare octet parts) = none
rest_of_parts none = none

abbrev pub rest_of : Tree → Trees
rest_of (constructed octet parts) = rest_of_parts parts
rest_of (primitive octet content) = none
rest_of absent = none

-- keys of RSA have the version 0, and those on elliptic curves the version 1
pub versions_apart : (a b : Trees) → der (constructed sequence_octet (more (primitive integer_octet (0 ∷ [])) a)) ≡ der (constructed sequence_octet (more (primitive integer_octet (1 ∷ [])) b)) → ⊥
versions_apart a b e =
    let contents = element-content sequence_octet (element integer_octet (0 ∷ []) ++ ders a) (element integer_octet (1 ∷ []) ++ ders b) e in
    let versions : 0 ≡ 1 = heads 0 1 [] [] (element-one 2 2 (0 ∷ []) (1 ∷ []) (ders a) (ders b) contents).1 in
    omega (arith, versions)

-- what octet strings of one spelling hold is spelled alike
held_alike : (t u : Tree) → IsWhole (wrapped octet_string_octet t) → IsWhole (wrapped octet_string_octet u) → der (wrapped octet_string_octet t) ≡ der (wrapped octet_string_octet u) → der t ≡ der u
held_alike t u whole also e =
    element-content 4 (der t) (der u) (sym (der-wrapped octet_string_octet t (wrapped-whole 4 t whole)) ∙ e ∙ der-wrapped octet_string_octet u (wrapped-whole 4 u also))

module _ (rsa : RsaPrivateKey → Tree) (ec : ECPrivateKey → Tree) (ed : List ℕ → Tree) where
  pub value-begins : (v : PrivateKeyValue) → BeginsAmong (only octet_string_octet) (value_tree rsa ec ed v)
  value-begins (kind.Rsa key) = wrapped-begins 4 (rsa key.0)
  value-begins (kind.EC key) = wrapped-begins 4 (ec key.0)
  value-begins (kind.ED key) = wrapped-begins 4 (ed key.0)

  -- keys of different kinds aren't spelled alike
  otherwise : (t u : Tree) → BeginsAmong (only sequence_octet) t → BeginsAmong (only octet_string_octet) u → IsWhole (wrapped octet_string_octet t) → IsWhole (wrapped octet_string_octet u) → der (wrapped octet_string_octet t) ≡ der (wrapped octet_string_octet u) → ⊥
  otherwise t u begins also whole other e =
      apart-spelled (only sequence_octet) (only octet_string_octet) refl t u begins also (wrapped-whole 4 t whole) (wrapped-whole 4 u other) (held_alike t u whole other e)

  pub value-injective : IsInjective rsa → IsInjective ec → IsInjective ed
      → ((v : RsaPrivateKey) → BeginsAmong (only sequence_octet) (rsa v)) → ((v : ECPrivateKey) → BeginsAmong (only sequence_octet) (ec v)) → ((v : List ℕ) → BeginsAmong (only octet_string_octet) (ed v))
      → ((v : RsaPrivateKey) (w : ECPrivateKey) → der (rsa v) ≡ der (ec w) → ⊥)
      → IsInjective (value_tree rsa ec ed)
  value-injective one_rsa one_ec one_ed rsa_first ec_first ed_first versions (kind.Rsa v) (kind.Rsa w) whole also e =
      let same = wrapped-injective 4 rsa one_rsa v.0 w.0 whole also e in λ i. kind.Rsa (record { 0 = same i })
  value-injective one_rsa one_ec one_ed rsa_first ec_first ed_first versions (kind.Rsa v) (kind.EC w) whole also e =
      absurd (versions v.0 w.0 (held_alike (rsa v.0) (ec w.0) whole also e))
  value-injective one_rsa one_ec one_ed rsa_first ec_first ed_first versions (kind.Rsa v) (kind.ED w) whole also e =
      absurd (otherwise (rsa v.0) (ed w.0) (rsa_first v.0) (ed_first w.0) whole also e)
  value-injective one_rsa one_ec one_ed rsa_first ec_first ed_first versions (kind.EC v) (kind.Rsa w) whole also e =
      absurd (versions w.0 v.0 (sym (held_alike (ec v.0) (rsa w.0) whole also e)))
  value-injective one_rsa one_ec one_ed rsa_first ec_first ed_first versions (kind.EC v) (kind.EC w) whole also e =
      let same = wrapped-injective 4 ec one_ec v.0 w.0 whole also e in λ i. kind.EC (record { 0 = same i })
  value-injective one_rsa one_ec one_ed rsa_first ec_first ed_first versions (kind.EC v) (kind.ED w) whole also e =
      absurd (otherwise (ec v.0) (ed w.0) (ec_first v.0) (ed_first w.0) whole also e)
  value-injective one_rsa one_ec one_ed rsa_first ec_first ed_first versions (kind.ED v) (kind.Rsa w) whole also e =
      absurd (otherwise (rsa w.0) (ed v.0) (rsa_first w.0) (ed_first v.0) also whole (sym e))
  value-injective one_rsa one_ec one_ed rsa_first ec_first ed_first versions (kind.ED v) (kind.EC w) whole also e =
      absurd (otherwise (ec w.0) (ed v.0) (ec_first w.0) (ed_first v.0) also whole (sym e))
  value-injective one_rsa one_ec one_ed rsa_first ec_first ed_first versions (kind.ED v) (kind.ED w) whole also e =
      let same = wrapped-injective 4 ed one_ed v.0 w.0 whole also e in λ i. kind.ED (record { 0 = same i })

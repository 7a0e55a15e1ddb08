-- An authority key identifier is distinguished by its fields, and they are in order where nothing deviates.
use Rattle.std.proofs.Common.{◌≡◌, ℕ, ◌+◌, Bool, true, false, List, [], ◌∷◌, ◌++◌, Option, None, Some, refl, sym, ap, ◌∙◌, subst, arith}
use Rattle.std.specs.Prelude.{◌||◌, ℤ}
use Rattle.asn1_der.specs.Tree.{Tree, Trees, none, more, put, trees_of, IsWhole, AreWhole}
use Rattle.picky_asn1_der.specs.declared.wrapper.ExplicitContextTag.{ExplicitContextTag}
use Rattle.picky_asn1_der.specs.declared.implicit_tag.ImplicitContextTag.{ImplicitContextTag}
use Rattle.x509_fields.specs.declared.general_name.GeneralName.{GeneralName}
use Rattle.x509_spelling.specs.Deviations.{Deviation, fields_out_of_order, field_repeated, counted}
use Rattle.x509_certificates.specs.declared.authority_field.AuthorityField.{AuthorityField}
use Rattle.x509_certificates.specs.declared.authority_field.AuthorityField.TheVariants.{KeyIdentifier, Issuer, SerialNumber}
use Rattle.x509_certificates.specs.declared.authority_key_identifier.AuthorityKeyIdentifier.{AuthorityKeyIdentifier}
use Rattle.x509_certificates.specs.declared.authority_key_identifier.Gathered.{Gathered}
use Rattle.x509_certificates.specs.AuthorityFields.{stands, kept, nothing, before, gathered_onto, deviations_of, authority_of, authority_count, put_field, fields_of}

abbrev Key : Type 0
Key = ImplicitContextTag 0 (List ℕ)

abbrev From : Type 0
From = ExplicitContextTag 1 GeneralName

abbrev Number : Type 0
Number = ImplicitContextTag 2 ℤ

abbrev made : Option Key → Option From → Option Number → AuthorityKeyIdentifier
made k i s = record {
  key_identifier = record { 0 = k };
  authority_cert_issuer = record { 0 = i };
  authority_cert_serial_number = record { 0 = s };
}

back : (k : Option Key) (i : Option From) (s : Option Number) → authority_of (fields_of (made k i s)) ≡ made k i s
back None None None = refl
back None None (Some s) = refl
back None (Some i) None = refl
back None (Some i) (Some s) = refl
back (Some k) None None = refl
back (Some k) None (Some s) = refl
back (Some k) (Some i) None = refl
back (Some k) (Some i) (Some s) = refl

pub authority_back : (v : AuthorityKeyIdentifier) → authority_of (fields_of v) ≡ v
authority_back v = back v.key_identifier.0 v.authority_cert_issuer.0 v.authority_cert_serial_number.0

uncounted : (k : Option Key) (i : Option From) (s : Option Number) → authority_count (fields_of (made k i s)) ≡ 0
uncounted None None None = refl
uncounted None None (Some s) = refl
uncounted None (Some i) None = refl
uncounted None (Some i) (Some s) = refl
uncounted (Some k) None None = refl
uncounted (Some k) None (Some s) = refl
uncounted (Some k) (Some i) None = refl
uncounted (Some k) (Some i) (Some s) = refl

pub authority_uncounted : (v : AuthorityKeyIdentifier) → authority_count (fields_of v) ≡ 0
authority_uncounted v = uncounted v.key_identifier.0 v.authority_cert_issuer.0 v.authority_cert_serial_number.0

-- if nothing deviates with a field in front, the fields after it have neither its tag nor a lower one
sums : (d r x : ℕ) → d + (r + x) ≡ 0 → (d ≡ 0) × (r ≡ 0) × (x ≡ 0)
sums d r x e = (omega (arith, e), omega (arith, e), omega (arith, e))

unset : {A : Type 0} (deviation : Deviation) (o : Option A) → counted deviation (stands o) ≡ 0 → o ≡ None
unset deviation None e = refl
unset deviation (Some x) e = absurd (omega (arith, e))

ordered : {A : Type 0} (deviation : Deviation) (o : Option A) (d : Bool) → counted deviation (stands o || d) ≡ 0 → (o ≡ None) × (counted deviation d ≡ 0)
ordered deviation None d e = (refl, e)
ordered deviation (Some x) d e = absurd (omega (arith, e))

disordered : {A B : Type 0} (deviation : Deviation) (o : Option A) (p : Option B) (d : Bool) → counted deviation ((stands o || stands p) || d) ≡ 0
    → (o ≡ None) × (p ≡ None) × (counted deviation d ≡ 0)
disordered deviation None None d e = (refl, refl, e)
disordered deviation None (Some y) d e = absurd (omega (arith, e))
disordered deviation (Some x) p d e = absurd (omega (arith, e))

zero_sum : (d r : ℕ) → d ≡ 0 → r ≡ 0 → d + r ≡ 0
zero_sum d r e f = omega (arith, e, f)

-- a field in front of those that are in order
in_front : (f : AuthorityField) (g : Gathered) → deviations_of (before f g) ≡ 0 → (deviations_of g ≡ 0) × (f ∷ fields_of g.value ≡ fields_of (before f g).value)
in_front (KeyIdentifier key) g e =
    let v = g.value in
    let parts = sums (counted fields_out_of_order g.is_disordered) g.repeats (counted field_repeated (stands v.key_identifier.0)) e in
    let no_key = unset field_repeated v.key_identifier.0 parts.2 in (
      zero_sum (counted fields_out_of_order g.is_disordered) g.repeats parts.0 parts.1,
      subst (λ (k : Option Key). KeyIdentifier key ∷ fields_of (made k v.authority_cert_issuer.0 v.authority_cert_serial_number.0)
          ≡ fields_of (made (kept k key) v.authority_cert_issuer.0 v.authority_cert_serial_number.0)) (sym no_key) refl,
    )
in_front (Issuer issuer) g e =
    let v = g.value in
    let parts = sums (counted fields_out_of_order (stands v.key_identifier.0 || g.is_disordered)) g.repeats (counted field_repeated (stands v.authority_cert_issuer.0)) e in
    let no_key = ordered fields_out_of_order v.key_identifier.0 g.is_disordered parts.0 in
    let no_issuer = unset field_repeated v.authority_cert_issuer.0 parts.2 in (
      zero_sum (counted fields_out_of_order g.is_disordered) g.repeats no_key.1 parts.1,
      subst (λ (i : Option From). Issuer issuer ∷ fields_of (made v.key_identifier.0 i v.authority_cert_serial_number.0)
          ≡ fields_of (made v.key_identifier.0 (kept i issuer) v.authority_cert_serial_number.0)) (sym no_issuer)
          (subst (λ (k : Option Key). Issuer issuer ∷ fields_of (made k None v.authority_cert_serial_number.0)
          ≡ fields_of (made k (Some issuer) v.authority_cert_serial_number.0)) (sym no_key.0) refl),
    )
in_front (SerialNumber number) g e =
    let v = g.value in
    let parts = sums (counted fields_out_of_order ((stands v.key_identifier.0 || stands v.authority_cert_issuer.0) || g.is_disordered)) g.repeats
    (counted field_repeated (stands v.authority_cert_serial_number.0)) e in
    let no_others = disordered fields_out_of_order v.key_identifier.0 v.authority_cert_issuer.0 g.is_disordered parts.0 in
    let no_number = unset field_repeated v.authority_cert_serial_number.0 parts.2 in (
      zero_sum (counted fields_out_of_order g.is_disordered) g.repeats no_others.2 parts.1,
      subst (λ (s : Option Number). SerialNumber number ∷ fields_of (made v.key_identifier.0 v.authority_cert_issuer.0 s)
          ≡ fields_of (made v.key_identifier.0 v.authority_cert_issuer.0 (kept s number))) (sym no_number)
          (subst (λ (i : Option From). SerialNumber number ∷ fields_of (made v.key_identifier.0 i None)
          ≡ fields_of (made v.key_identifier.0 i (Some number))) (sym no_others.1)
          (subst (λ (k : Option Key). SerialNumber number ∷ fields_of (made k None None)
          ≡ fields_of (made k None (Some number))) (sym no_others.0) refl)),
    )

pub authority_only : (fs : List AuthorityField) → authority_count fs ≡ 0 → fs ≡ fields_of (authority_of fs)
authority_only [] e = refl
authority_only (f ∷ fs) e =
    let front = in_front f (gathered_onto nothing fs) e in
    ap (λ (l : List AuthorityField). f ∷ l) (authority_only fs front.0) ∙ front.1

module _ (tree : AuthorityField → Tree) where
  put-trees : {A : Type 0} (make : A → AuthorityField) (o : Option A) (fs : List AuthorityField) → put (λ x. tree (make x)) o (trees_of tree fs) ≡ trees_of tree (put_field make o fs)
  put-trees make None fs = refl
  put-trees make (Some x) fs = refl

  -- the row of three optional fields is written as the list of those that are there
  pub authority_trees : (v : AuthorityKeyIdentifier) → put (λ x. tree (KeyIdentifier x)) v.key_identifier.0 (put (λ x. tree (Issuer x)) v.authority_cert_issuer.0
      (put (λ x. tree (SerialNumber x)) v.authority_cert_serial_number.0 none)) ≡ trees_of tree (fields_of v)
  authority_trees v =
      let k = v.key_identifier.0 in
      let i = v.authority_cert_issuer.0 in
      let s = v.authority_cert_serial_number.0 in
      ap (λ (ts : Trees). put (λ x. tree (KeyIdentifier x)) k (put (λ x. tree (Issuer x)) i ts)) (put-trees SerialNumber s [])
      ∙ ap (λ (ts : Trees). put (λ x. tree (KeyIdentifier x)) k ts) (put-trees Issuer i (put_field SerialNumber s []))
      ∙ put-trees KeyIdentifier k (put_field Issuer i (put_field SerialNumber s []))

  whole_put : {A : Type 0} (make : A → AuthorityField) (o : Option A) (x : A) (fs : List AuthorityField) → IsWhole (tree (make x)) → AreWhole (trees_of tree (put_field make o fs))
      → AreWhole (trees_of tree (put_field make (kept o x) fs))
  whole_put make None x fs whole rest = (whole, rest)
  whole_put make (Some y) x fs whole rest = rest

  behind_put : {A : Type 0} (make : A → AuthorityField) (o : Option A) (fs gs : List AuthorityField) → (AreWhole (trees_of tree fs) → AreWhole (trees_of tree gs))
      → AreWhole (trees_of tree (put_field make o fs)) → AreWhole (trees_of tree (put_field make o gs))
  behind_put make None fs gs also whole = also whole
  behind_put make (Some x) fs gs also whole = (whole.0, also whole.1)

  whole_before : (f : AuthorityField) (g : Gathered) → IsWhole (tree f) → AreWhole (trees_of tree (fields_of g.value)) → AreWhole (trees_of tree (fields_of (before f g).value))
  whole_before (KeyIdentifier key) g whole rest =
      whole_put KeyIdentifier g.value.key_identifier.0 key
      (put_field Issuer g.value.authority_cert_issuer.0 (put_field SerialNumber g.value.authority_cert_serial_number.0 [])) whole rest
  whole_before (Issuer issuer) g whole rest =
      behind_put KeyIdentifier g.value.key_identifier.0
      (put_field Issuer g.value.authority_cert_issuer.0 (put_field SerialNumber g.value.authority_cert_serial_number.0 []))
      (put_field Issuer (kept g.value.authority_cert_issuer.0 issuer) (put_field SerialNumber g.value.authority_cert_serial_number.0 []))
      (whole_put Issuer g.value.authority_cert_issuer.0 issuer (put_field SerialNumber g.value.authority_cert_serial_number.0 []) whole) rest
  whole_before (SerialNumber number) g whole rest =
      behind_put KeyIdentifier g.value.key_identifier.0
      (put_field Issuer g.value.authority_cert_issuer.0 (put_field SerialNumber g.value.authority_cert_serial_number.0 []))
      (put_field Issuer g.value.authority_cert_issuer.0 (put_field SerialNumber (kept g.value.authority_cert_serial_number.0 number) []))
      (behind_put Issuer g.value.authority_cert_issuer.0 (put_field SerialNumber g.value.authority_cert_serial_number.0 [])
      (put_field SerialNumber (kept g.value.authority_cert_serial_number.0 number) [])
      (whole_put SerialNumber g.value.authority_cert_serial_number.0 number [] whole)) rest

  pub authority_whole : (fs : List AuthorityField) → AreWhole (trees_of tree fs) → AreWhole (trees_of tree (fields_of (authority_of fs)))
  authority_whole [] whole = tt
  authority_whole (f ∷ fs) whole = whole_before f (gathered_onto nothing fs) whole.0 (authority_whole fs whole.1)

-- fields that end in one are gathered onto it
pub gathered-last : (g : Gathered) (fs : List AuthorityField) (f : AuthorityField) → gathered_onto g (fs ++ (f ∷ [])) ≡ gathered_onto (before f g) fs
gathered-last g [] f = refl
gathered-last g (x ∷ fs) f = ap (before x) (gathered-last g fs f)

-- The body of a request to a KDC, and the data of its padata, are parts of its bytes: a tree under a further tag is an element,
-- whose content is the tree's spelling.
use Rattle.std.proofs.Common.{◌≡◌, ℕ, suc, ℤ, Bool, true, false, List, [], ◌∷◌, ◌++◌, Option, None, Some, IsSome, refl, sym, ap, subst, ◌∙◌, append-nil, if◌then◌else◌}
use Rattle.std.specs.List.{find, slice_get}
use Rattle.std.specs.Option.{option_map, option_map_or}
use Rattle.asn1_der.specs.Length.{element}
use Rattle.asn1_der.specs.Tree.{Tree, Trees, primitive, constructed, more, none, der, ders, put, trees_of, wrapped, AreWhole, IsWhole, Writes}
use Rattle.asn1_der.proofs.Spelling.{der-wrapped, wrapped-whole}
use Rattle.picky_asn1.specs.Bytes.{Bytes}
use Rattle.picky_asn1.specs.Integer.{integer_content}
use Rattle.picky_asn1.specs.Numbers.{is_number}
use Rattle.picky_asn1_der.specs.Parts.{AreElements, IsElementAt, IsPart, IsPartIn}
use Rattle.picky_asn1_der.specs.Raw.{Raw, has_low_number}
use Rattle.picky_asn1_der.specs.Splits.{SplitsInto}
use Rattle.picky_asn1_der.specs.declared.wrapper.ExplicitContextTag.{ExplicitContextTag}
use Rattle.krb_messages.specs.Trees.{pa_data_tree}
use Rattle.krb_messages.specs.declared.data_types.pa_data.PaData.{PaData}
use Rattle.krb_messages.specs.MessageTrees.{kdc_req_body_tree, kdc_req_inner_tree}
use Rattle.krb_messages.specs.declared.messages.kdc_req.KdcReq.{KdcReq}
use Rattle.krb_messages.specs.Padata.{first_padata, first_of}
use Rattle.krb_messages.specs.Padata.{padata_in}
use Rattle.krb_messages.specs.Bodies.{body_bytes}

-- a part of a part is a part
pub within : (path further bytes inner part : List ℕ) → IsPart bytes path inner → IsPart inner further part → IsPart bytes (path ++ further) part
within [] further bytes inner part same x = subst (λ (l : List ℕ). IsPart l further part) same x
within (n ∷ path) further bytes inner part (raw, next, splits, at, rest) x = (raw, next, splits, at, within path further next inner part rest x)

-- a tree under a further tag, as an element
abbrev tagged : ℕ → Tree → Raw
tagged first tree = record { first = first; content = der tree }

split_tagged : (first : ℕ) (tree : Tree) (rest : List ℕ) → has_low_number first ≡ true → IsWhole (wrapped first tree)
    → SplitsInto (der (wrapped first tree) ++ rest) (tagged first tree) rest
split_tagged first tree rest low whole = (low, ap (λ front. front ++ rest) (der-wrapped first tree (wrapped-whole first tree whole)))

-- what has a place in the tree's spelling has one under the further tag
in_tagged : (first : ℕ) (tree : Tree) (n : ℕ) (path part : List ℕ) → has_low_number first ≡ true → IsWhole (wrapped first tree)
    → IsPartIn (der tree) n path part → IsPart (der (wrapped first tree)) (n ∷ path) part
in_tagged first tree n path part low whole (inner, at, further) =
    (tagged first tree, inner, (low, der-wrapped first tree (wrapped-whole first tree whole) ∙ sym (append-nil (element first (der tree)))), at, further)

-- a SEQUENCE alone is the element number 0
sole_sequence : (parts : Trees) → IsElementAt 0 (der (constructed 48 parts)) (der (constructed 48 parts))
sole_sequence parts =
    let raw : Raw = record { first = 48; content = ders parts } in
    (raw ∷ [], raw, ([], (refl, sym (append-nil (element 48 (ders parts)))), refl), refl, refl)

-- in a SEQUENCE under a further tag, what stands alone under the tag of its element number n
in_field : (first n tag : ℕ) (parts own : Trees) (tree : Tree) → has_low_number first ≡ true → has_low_number tag ≡ true → tree ≡ constructed 48 own
    → IsWhole (wrapped first (constructed 48 parts)) → IsWhole (wrapped tag tree) → IsElementAt n (ders parts) (der (wrapped tag tree))
    → IsPart (der (wrapped first (constructed 48 parts))) (0 ∷ n ∷ 0 ∷ []) (der tree)
in_field first n tag parts own tree low low_tag sequence whole whole_tree at =
    let alone : IsElementAt 0 (der tree) (der tree) = subst (λ t. IsElementAt 0 (der t) (der t)) (sym sequence) (sole_sequence own) in
    in_tagged first (constructed 48 parts) 0 (n ∷ 0 ∷ []) (der tree) low whole (
      der (constructed 48 parts),
      sole_sequence parts,
      (
        record { first = 48; content = ders parts },
        der (wrapped tag tree),
        (refl, sym (append-nil (element 48 (ders parts)))),
        at,
        in_tagged tag tree 0 [] (der tree) low_tag whole_tree (der tree, alone, refl),
      ),
    )

-- of trees under [1] to [4] the third and the last
module _ (a b c d : Tree) where
  abbrev four : Trees
  four = more (wrapped 161 a) (more (wrapped 162 b) (more (wrapped 163 c) (more (wrapped 164 d) none)))

  abbrev raws : List Raw
  raws = tagged 161 a ∷ tagged 162 b ∷ tagged 163 c ∷ tagged 164 d ∷ []

  are_four : AreWhole four → AreElements raws (ders four)
  are_four whole = (
    _,
    split_tagged 161 a _ refl whole.0,
    (
      _,
      split_tagged 162 b _ refl whole.1.0,
      (
        _,
        split_tagged 163 c _ refl whole.1.1.0,
        (_, split_tagged 164 d _ refl whole.1.1.1.0, refl),
      ),
    ),
  )

  in_third : (first : ℕ) (own : Trees) → has_low_number first ≡ true → c ≡ constructed 48 own → IsWhole (wrapped first (constructed 48 four))
      → IsPart (der (wrapped first (constructed 48 four))) (0 ∷ 2 ∷ 0 ∷ []) (der c)
  in_third first own low sequence whole =
      in_field first 2 163 four own c low refl sequence whole whole.0.1.1.0
      (raws, tagged 163 c, are_four whole.0, refl, der-wrapped 163 c (wrapped-whole 163 c whole.0.1.1.0))

  in_last : (first : ℕ) (own : Trees) → has_low_number first ≡ true → d ≡ constructed 48 own → IsWhole (wrapped first (constructed 48 four))
      → IsPart (der (wrapped first (constructed 48 four))) (0 ∷ 3 ∷ 0 ∷ []) (der d)
  in_last first own low sequence whole =
      in_field first 3 164 four own d low refl sequence whole whole.0.1.1.1.0
      (raws, tagged 164 d, are_four whole.0, refl, der-wrapped 164 d (wrapped-whole 164 d whole.0.1.1.1.0))

-- the same where the third may be missing
module _ {A : Type 0} (a b d : Tree) (third : A → Tree) where
  abbrev fields : Option A → Trees
  fields given = more (wrapped 161 a) (more (wrapped 162 b) (put (λ value. wrapped 163 (third value)) given (more (wrapped 164 d) none)))

  body_in : (first : ℕ) (given : Option A) (own : Trees) → has_low_number first ≡ true → d ≡ constructed 48 own → IsSome given → IsWhole (wrapped first (constructed 48 (fields given)))
      → IsPart (der (wrapped first (constructed 48 (fields given)))) (0 ∷ 3 ∷ 0 ∷ []) (der d)
  body_in first None own low sequence there whole = absurd (cc (there))
  body_in first (Some value) own low sequence there whole = in_last a b (third value) d first own low sequence whole

abbrev integer_tree : ℤ → Tree
integer_tree number = primitive 2 (integer_content number)

-- the body of a request whose application tag begins with this octet
pub body_part : (first : ℕ) → has_low_number first ≡ true → (bytes : Bytes) (request : KdcReq) → Writes (λ r. wrapped first (kdc_req_inner_tree r)) request bytes
    → IsSome request.padata.0 → IsPart bytes (0 ∷ 3 ∷ 0 ∷ []) (body_bytes request.req_body.0)
unfolding body_bytes
body_part first low bytes request is there =
    subst (λ (l : List ℕ). IsPart l (0 ∷ 3 ∷ 0 ∷ []) (body_bytes request.req_body.0)) (sym is.1)
    (body_in (integer_tree request.pvno.0) (integer_tree request.msg_type.0) (kdc_req_body_tree request.req_body.0)
    (λ padata. constructed 48 (trees_of pa_data_tree padata.0)) first request.padata.0 _ low refl there is.0)

-- padata, as elements
abbrev raw_of : PaData → Raw
raw_of pa_data = record { first = 48; content = ders (more (wrapped 161 (integer_tree pa_data.padata_type.0)) (more (wrapped 162 (primitive 4 pa_data.padata_data.0)) none)) }

abbrev raws_of : List PaData → List Raw
raws_of [] = []
raws_of (pa_data ∷ padata) = raw_of pa_data ∷ raws_of padata

are_padata : (padata : List PaData) → AreElements (raws_of padata) (ders (trees_of pa_data_tree padata))
are_padata [] = refl
are_padata (pa_data ∷ padata) = (_, (refl, refl), are_padata padata)

-- one that is found has a number
numbered : (test : PaData → Bool) (padata : List PaData) (pa_data : PaData) → find test padata ≡ Some pa_data → (n : ℕ) × (slice_get (raws_of padata) n ≡ Some (raw_of pa_data))
numbered test [] pa_data e = absurd (cc (e))
numbered test (own ∷ padata) pa_data e = by_test (test own) (λ f. numbered test padata pa_data f) e
  where
    by_test : (b : Bool) → (find test padata ≡ Some pa_data → (n : ℕ) × (slice_get (raws_of padata) n ≡ Some (raw_of pa_data)))
        → (if b then Some own else find test padata) ≡ Some pa_data → (n : ℕ) × (slice_get (raws_of (own ∷ padata)) n ≡ Some (raw_of pa_data))
    by_test true rest f = let same : own ≡ pa_data = cc (f) in (0, ap (λ v. Some (raw_of v)) same)
    by_test false rest f = let later = rest f in (suc later.0, later.1)

-- its data is an OCTET STRING
data_in : (pa_data : PaData) → IsPart (der (pa_data_tree pa_data)) (1 ∷ 0 ∷ []) (element 4 pa_data.padata_data.0)
data_in pa_data =
    let octets : Raw = record { first = 4; content = pa_data.padata_data.0 } in
    let two : Raw = tagged 162 (primitive 4 pa_data.padata_data.0) in
    let one : Raw = tagged 161 (integer_tree pa_data.padata_type.0) in (
      raw_of pa_data,
      der (wrapped 162 (primitive 4 pa_data.padata_data.0)),
      (refl, sym (append-nil (element 48 (raw_of pa_data).content))),
      (one ∷ two ∷ [], two, (_, split_tagged 161 (integer_tree pa_data.padata_type.0) _ refl (tt, tt), (_, split_tagged 162 (primitive 4 pa_data.padata_data.0) _ refl (tt, tt), refl)), refl, der-wrapped 162 (primitive 4 pa_data.padata_data.0) tt),
      in_tagged 162 (primitive 4 pa_data.padata_data.0) 0 [] (element 4 pa_data.padata_data.0) refl (tt, tt) (
        element 4 pa_data.padata_data.0,
        (octets ∷ [], octets, ([], (refl, sym (append-nil (element 4 pa_data.padata_data.0))), refl), refl, refl),
        refl,
      ),
    )

-- and what that holds
pub held_in : (value : List ℕ) (m : ℕ) (path part : List ℕ) → IsPart value (m ∷ path) part → IsPart (element 4 value) (0 ∷ m ∷ path) part
held_in value m path part (raw, inner, splits, at, further) = (
  record { first = 4; content = value },
  value,
  (refl, sym (append-nil (element 4 value))),
  (raw ∷ [], raw, ([], splits, refl), refl, splits.1 ∙ append-nil (element raw.first raw.content)),
  (raw, inner, splits, at, further),
)

-- the data of the first padata of a type is at a place in the padata
padata_value_in : (padata : List PaData) (kind : ℕ) (value : List ℕ) → first_of kind padata ≡ Some value
    → (n : ℕ) × IsPart (der (constructed 48 (trees_of pa_data_tree padata))) (n ∷ 1 ∷ 0 ∷ []) (element 4 value)
unfolding first_of first_padata
padata_value_in padata kind value e = by_padata (find (λ pa_data. is_number kind pa_data.padata_type.0) padata) refl e
  where
    by_padata : (found : Option PaData) → find (λ pa_data. is_number kind pa_data.padata_type.0) padata ≡ found → option_map (λ pa_data. pa_data.padata_data.0) found ≡ Some value
        → (n : ℕ) × IsPart (der (constructed 48 (trees_of pa_data_tree padata))) (n ∷ 1 ∷ 0 ∷ []) (element 4 value)
    by_padata None is f = absurd (cc (f))
    by_padata (Some pa_data) is f =
        let same : pa_data.padata_data.0 ≡ value = cc (f) in
        let at = numbered (λ pa_data. is_number kind pa_data.padata_type.0) padata pa_data is in (
          at.0,
          subst (λ (v : List ℕ). IsPart (der (constructed 48 (trees_of pa_data_tree padata))) (at.0 ∷ 1 ∷ 0 ∷ []) (element 4 v)) same (
            record { first = 48; content = ders (trees_of pa_data_tree padata) },
            der (pa_data_tree pa_data),
            (refl, sym (append-nil (element 48 (ders (trees_of pa_data_tree padata))))),
            (raws_of padata, raw_of pa_data, are_padata padata, at.1, refl),
            data_in pa_data,
          ),
        )

no_padata : (kind : ℕ) (value : List ℕ) → first_of kind [] ≡ Some value → ⊥
unfolding first_of first_padata
no_padata kind value e = cc (e)

-- what a request is made of, with other padata or none
abbrev with_padata : ℕ → KdcReq → Option (ExplicitContextTag 3 (List PaData)) → Tree
with_padata first request given =
    wrapped first (constructed 48 (fields (integer_tree request.pvno.0) (integer_tree request.msg_type.0) (kdc_req_body_tree request.req_body.0) (λ padata. constructed 48 (trees_of pa_data_tree padata.0)) given))

in_given : (first : ℕ) → has_low_number first ≡ true → (request : KdcReq) (kind : ℕ) (value : List ℕ) (given : Option (ExplicitContextTag 3 (List PaData)))
    → IsWhole (with_padata first request given) → first_of kind (option_map_or (λ padata. padata.0) given []) ≡ Some value
    → (n : ℕ) × IsPart (der (with_padata first request given)) (0 ∷ 2 ∷ 0 ∷ n ∷ 1 ∷ 0 ∷ []) (element 4 value)
in_given first low request kind value None whole e = absurd (no_padata kind value e)
in_given first low request kind value (Some padata) whole e =
    let at = padata_value_in padata.0 kind value e in
    let sequence = constructed 48 (trees_of pa_data_tree padata.0) in (
      at.0,
      within (0 ∷ 2 ∷ 0 ∷ []) (at.0 ∷ 1 ∷ 0 ∷ []) (der (with_padata first request (Some padata))) (der sequence) (element 4 value)
          (in_third (integer_tree request.pvno.0) (integer_tree request.msg_type.0) sequence (kdc_req_body_tree request.req_body.0) first (trees_of pa_data_tree padata.0) low refl whole)
          at.1,
    )

-- the data of the first padata of a type, in a request
pub padata_part : (first : ℕ) → has_low_number first ≡ true → (bytes : Bytes) (request : KdcReq) (kind : ℕ) (value : List ℕ) → Writes (λ r. wrapped first (kdc_req_inner_tree r)) request bytes
    → first_of kind (padata_in request) ≡ Some value → (n : ℕ) × IsPart bytes (0 ∷ 2 ∷ 0 ∷ n ∷ 1 ∷ 0 ∷ []) (element 4 value)
padata_part first low bytes request kind value is e =
    let found = in_given first low request kind value request.padata.0 is.0 e in
    (found.0, subst (λ (l : List ℕ). IsPart l (0 ∷ 2 ∷ 0 ∷ found.0 ∷ 1 ∷ 0 ∷ []) (element 4 value)) (sym is.1) found.1)

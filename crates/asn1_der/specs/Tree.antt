-- An ASN.1 value as a tree, and the one DER spelling of a tree (X.690, sections 8.1 and 10.1).
use Rattle.std.specs.Prelude.{Bool, true, false, ◌≡◌, ℕ, List, [], ◌∷◌, ◌++◌, Option, None, Some, ⊤, refl}
use Rattle.asn1_der.specs.Length.{element, length_octets}

mutual
  -- A primitive value is its identifier octet and its content; a constructed one is its identifier octet
  -- and its parts. An optional value that is missing is `absent`, which is written as nothing.
  pub data Tree : Type 0 where
    primitive : ℕ → List ℕ → Tree
    constructed : ℕ → Trees → Tree
    absent : Tree

  -- Trees, one after another. In front of them may stand an octet that is no element, as that of a BIT STRING which
  -- counts its unused bits (8.6.2).
  pub data Trees : Type 0 where
    none : Trees
    more : Tree → Trees → Trees
    bare : ℕ → Trees → Trees

abbrev mutual
  -- the distinguished encoding of a tree
  pub der : Tree → List ℕ
  der (primitive first content) = element first content
  der (constructed first parts) = element first (ders parts)
  der absent = []

  -- the encodings of several trees, one after another
  pub ders : Trees → List ℕ
  ders none = []
  ders (more tree trees) = der tree ++ ders trees
  ders (bare octet trees) = octet ∷ ders trees

abbrev mutual
  -- no part of the tree, nor the tree itself, is missing
  pub IsWhole : Tree → Type 0
  IsWhole (primitive first content) = ⊤
  IsWhole (constructed first parts) = AreWhole parts
  IsWhole absent = ⊥

  -- none of the trees is missing, nor a part of one
  pub AreWhole : Trees → Type 0
  AreWhole none = ⊤
  AreWhole (more tree trees) = IsWhole tree × AreWhole trees
  AreWhole (bare octet trees) = AreWhole trees

-- The value is written as these bytes: they are the one encoding of its tree, in which nothing is missing (X.690, section 10). Test:
-- `messages.txt`.
-- Nothing else than its one encoding is read as a value (X.690, section 10). Test: `as length long!`, `as integer padded FF!`.
abbrev pub Writes : {T : Type 0} → (T → Tree) → T → List ℕ → Type 0
Writes tree value bytes = IsWhole (tree value) × (bytes ≡ der (tree value))

-- a primitive value, where it is one of its type; what is none has no tree
abbrev pub leaf : Bool → ℕ → List ℕ → Tree
leaf true first content = primitive first content
leaf false first content = absent

-- a tree under a further tag; what is written as nothing stays so
abbrev pub wrapped : ℕ → Tree → Tree
wrapped first absent = absent
wrapped first (primitive inner content) = constructed first (more (primitive inner content) none)
wrapped first (constructed inner parts) = constructed first (more (constructed inner parts) none)

-- a tree with an octet in front of its content (X.690, section 8.6.2); what is written as nothing stays so
abbrev pub behind : ℕ → Tree → Tree
behind octet absent = absent
behind octet (primitive first content) = primitive first (octet ∷ content)
behind octet (constructed first parts) = constructed first (bare octet parts)

-- under `[0]` a BIT STRING of the octets of the INTEGER 5, of which no bit is unused
behind-bits_of_5 : der (wrapped 160 (behind 0 (wrapped 3 (primitive 2 (5 ∷ []))))) ≡ 160 ∷ 6 ∷ 3 ∷ 4 ∷ 0 ∷ 2 ∷ 1 ∷ 5 ∷ []
unfolding element length_octets
behind-bits_of_5 = refl

-- the trees with an optional one in front
abbrev pub put : {A : Type 0} → (A → Tree) → Option A → Trees → Trees
put tree None trees = trees
put tree (Some value) trees = more (tree value) trees

-- the trees of the elements of a list
-- Not judged: the order of a SET OF, which is kept (X.690, section 11.6). Test: `lists` of `identifiers.rt`.
abbrev pub trees_of : {A : Type 0} → (A → Tree) → List A → Trees
trees_of tree [] = none
trees_of tree (value ∷ values) = more (tree value) (trees_of tree values)

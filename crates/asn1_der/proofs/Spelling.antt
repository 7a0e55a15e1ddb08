-- A tree is spelled in one way, and its spelling says where it ends.
use Rattle.std.proofs.Common.{◌≡◌, ℕ, List, [], ◌∷◌, ◌++◌, length, refl, sym, ap, ◌∙◌, subst, eq-eqb}
use Rattle.std.proofs.lemmas.List.{append-nil}
use Rattle.std.specs.Prelude.{◌||◌, false, IsTrue}
use Rattle.asn1_der.specs.Length.{length_octets, element}
use Rattle.asn1_der.specs.Tree.{Tree, primitive, constructed, absent, none, more, der, ders, IsWhole, Writes, wrapped, behind}
use Rattle.asn1_der.specs.Firsts.{Firsts, only, may_begin, BeginsAmong}
use Rattle.asn1_der.proofs.Elements.{Begins, element-split, element-one, element-content, element-nonempty, element-begins}

element-front : (s t : ℕ) (a b x y : List ℕ) → element s a ++ x ≡ element t b ++ y → (element s a ≡ element t b) × (x ≡ y)
element-front s t a b x y e = let parts = element-one s t a b x y e in (cc, parts.2)

-- of two trees that begin one text, the spellings are the same, and so is what follows
pub der-front : (t u : Tree) (x y : List ℕ) → IsWhole t → IsWhole u → der t ++ x ≡ der u ++ y → (der t ≡ der u) × (x ≡ y)
der-front (primitive s a) (primitive t b) x y whole also e = element-front s t a b x y e
der-front (primitive s a) (constructed t bs) x y whole also e = element-front s t a (ders bs) x y e
der-front (primitive s a) absent x y whole also e = absurd also
der-front (constructed s parts) (primitive t b) x y whole also e = element-front s t (ders parts) b x y e
der-front (constructed s parts) (constructed t bs) x y whole also e = element-front s t (ders parts) (ders bs) x y e
der-front (constructed s parts) absent x y whole also e = absurd also
der-front absent u x y whole also e = absurd whole

pub der-nonempty : (t : Tree) → IsWhole t → der t ≡ [] → ⊥
der-nonempty (primitive s a) whole e = element-nonempty s a e
der-nonempty (constructed s parts) whole e = element-nonempty s (ders parts) e
der-nonempty absent whole e = whole

-- a tree's spelling has a first octet
pub der-first : (t : Tree) → IsWhole t → Begins (der t)
der-first (primitive s a) whole = record { octet = s; rest = length_octets (length a) ++ a; is = element-split s a }
der-first (constructed s parts) whole = record { octet = s; rest = length_octets (length (ders parts)) ++ ders parts; is = element-split s (ders parts) }
der-first absent whole = absurd whole

-- the first octet of a tree's spelling is among those with which it begins
pub der-begins : (firsts : Firsts) (t : Tree) → IsWhole t → BeginsAmong firsts t → (octet : ℕ) (rest x : List ℕ) → der t ++ x ≡ octet ∷ rest → IsTrue (may_begin firsts octet)
der-begins firsts (primitive s a) whole begins octet rest x e =
    subst (λ (first : ℕ). IsTrue (may_begin firsts first)) (element-begins s a octet rest x e) begins
der-begins firsts (constructed s parts) whole begins octet rest x e =
    subst (λ (first : ℕ). IsTrue (may_begin firsts first)) (element-begins s (ders parts) octet rest x e) begins
der-begins firsts absent whole begins octet rest x e = absurd whole

-- values that are written alike are in a relation: they are the same, or show the same
abbrev pub IsInjectiveAs : {T : Type 0} → (T → T → Type 0) → (T → Tree) → Type 0
IsInjectiveAs {T} Same tree = (v w : T) → IsWhole (tree v) → IsWhole (tree w) → der (tree v) ≡ der (tree w) → Same v w

abbrev pub IsInjective : {T : Type 0} → (T → Tree) → Type 0
IsInjective {T} tree = (v w : T) → IsWhole (tree v) → IsWhole (tree w) → der (tree v) ≡ der (tree w) → v ≡ w

-- a value is written in one way, and what is written says where it ends
pub one_spelling_as : {T : Type 0} (Same : T → T → Type 0) (tree : T → Tree) → IsInjectiveAs Same tree → (v w : T) (a b x y : List ℕ) → Writes tree v a → Writes tree w b → a ++ x ≡ b ++ y → Same v w × (a ≡ b) × (x ≡ y)
one_spelling_as Same tree injective v w a b x y writes also e =
    let joined : der (tree v) ++ x ≡ der (tree w) ++ y =
    sym (ap (λ (front : List ℕ). front ++ x) writes.1) ∙ e ∙ ap (λ (front : List ℕ). front ++ y) also.1 in
    let parts = der-front (tree v) (tree w) x y writes.0 also.0 joined in
    (injective v w writes.0 also.0 parts.0, writes.1 ∙ parts.0 ∙ sym also.1, parts.1)

pub one_spelling : {T : Type 0} (tree : T → Tree) → IsInjective tree → (v w : T) (a b x y : List ℕ) → Writes tree v a → Writes tree w b → a ++ x ≡ b ++ y → (v ≡ w) × (a ≡ b) × (x ≡ y)
one_spelling tree injective = one_spelling_as (λ v w. v ≡ w) tree injective

pub wrapped-is : (first : ℕ) (t : Tree) → IsWhole t → wrapped first t ≡ constructed first (more t none)
wrapped-is first (primitive s a) whole = refl
wrapped-is first (constructed s parts) whole = refl
wrapped-is first absent whole = absurd whole

pub wrapped-whole : (first : ℕ) (t : Tree) → IsWhole (wrapped first t) → IsWhole t
wrapped-whole first (primitive s a) whole = whole.0
wrapped-whole first (constructed s parts) whole = whole.0
wrapped-whole first absent whole = absurd whole

pub whole-wrapped : (first : ℕ) (t : Tree) → IsWhole t → IsWhole (wrapped first t)
whole-wrapped first (primitive s a) whole = (whole, tt)
whole-wrapped first (constructed s parts) whole = (whole, tt)
whole-wrapped first absent whole = absurd whole

-- an octet is among itself
pub may_begin-only : (first : ℕ) → IsTrue (may_begin (only first) first)
may_begin-only first = ap (λ b. b || false) (eq-eqb first first refl)

pub wrapped-begins : (first : ℕ) (t : Tree) → BeginsAmong (only first) (wrapped first t)
wrapped-begins first (primitive s a) = may_begin-only first
wrapped-begins first (constructed s parts) = may_begin-only first
wrapped-begins first absent = tt

pub ders-one : (t : Tree) → ders (more t none) ≡ der t
ders-one t = append-nil (der t)

-- a tree under a further tag is an element that holds the tree's spelling
pub der-wrapped : (first : ℕ) (t : Tree) → IsWhole t → der (wrapped first t) ≡ element first (der t)
der-wrapped first t whole = ap der (wrapped-is first t whole) ∙ ap (element first) (ders-one t)

pub wrapped-injective_as : {T : Type 0} (Same : T → T → Type 0) (first : ℕ) (tree : T → Tree) → IsInjectiveAs Same tree → (v w : T) → IsWhole (wrapped first (tree v)) → IsWhole (wrapped first (tree w)) → der (wrapped first (tree v)) ≡ der (wrapped first (tree w)) → Same v w
wrapped-injective_as Same first tree injective v w whole also e =
    let one = wrapped-whole first (tree v) whole in
    let other = wrapped-whole first (tree w) also in
    let same : element first (der (tree v)) ≡ element first (der (tree w)) =
    sym (der-wrapped first (tree v) one) ∙ e ∙ der-wrapped first (tree w) other in
    injective v w one other (element-content first (der (tree v)) (der (tree w)) same)

pub wrapped-injective : {T : Type 0} (first : ℕ) (tree : T → Tree) → IsInjective tree → (v w : T) → IsWhole (wrapped first (tree v)) → IsWhole (wrapped first (tree w)) → der (wrapped first (tree v)) ≡ der (wrapped first (tree w)) → v ≡ w
wrapped-injective first tree injective = wrapped-injective_as (λ v w. v ≡ w) first tree injective

-- a tree behind an octet: it is whole, and begins, as the tree does

pub behind-whole : (octet : ℕ) (t : Tree) → IsWhole (behind octet t) → IsWhole t
behind-whole octet (primitive s a) whole = tt
behind-whole octet (constructed s parts) whole = whole
behind-whole octet absent whole = absurd whole

pub whole-behind : (octet : ℕ) (t : Tree) → IsWhole t → IsWhole (behind octet t)
whole-behind octet (primitive s a) whole = tt
whole-behind octet (constructed s parts) whole = whole
whole-behind octet absent whole = absurd whole

pub behind-begins : (octet : ℕ) (firsts : Firsts) (t : Tree) → BeginsAmong firsts t → BeginsAmong firsts (behind octet t)
behind-begins octet firsts (primitive s a) begins = begins
behind-begins octet firsts (constructed s parts) begins = begins
behind-begins octet firsts absent begins = tt

pub heads : (m n : ℕ) (a b : List ℕ) → m ∷ a ≡ n ∷ b → m ≡ n
heads m n a b e = cc

pub tails : (m n : ℕ) (a b : List ℕ) → m ∷ a ≡ n ∷ b → a ≡ b
tails m n a b e = cc

element_behind : (octet s t : ℕ) (a b : List ℕ) → element s (octet ∷ a) ≡ element t (octet ∷ b) → element s a ≡ element t b
element_behind octet s t a b e =
    let parts = element-one s t (octet ∷ a) (octet ∷ b) [] [] (ap (λ octets. octets ++ []) e) in
    ap (λ first. element first a) parts.0 ∙ ap (element t) (tails octet octet a b parts.1)

-- two that are written alike behind an octet are so without it
pub behind-same : (octet : ℕ) (t u : Tree) → IsWhole t → IsWhole u → der (behind octet t) ≡ der (behind octet u) → der t ≡ der u
behind-same octet (primitive s a) (primitive t b) whole also e = element_behind octet s t a b e
behind-same octet (primitive s a) (constructed t bs) whole also e = element_behind octet s t a (ders bs) e
behind-same octet (primitive s a) absent whole also e = absurd also
behind-same octet (constructed s parts) (primitive t b) whole also e = element_behind octet s t (ders parts) b e
behind-same octet (constructed s parts) (constructed t bs) whole also e = element_behind octet s t (ders parts) (ders bs) e
behind-same octet (constructed s parts) absent whole also e = absurd also
behind-same octet absent u whole also e = absurd whole

-- a tree under a further tag, behind an octet, is an element that holds the octet and the tree's spelling
pub der-behind : (first octet : ℕ) (t : Tree) → IsWhole t → der (behind octet (wrapped first t)) ≡ element first (octet ∷ der t)
der-behind first octet t whole =
    ap (λ (u : Tree). der (behind octet u)) (wrapped-is first t whole) ∙ ap (λ content. element first (octet ∷ content)) (ders-one t)

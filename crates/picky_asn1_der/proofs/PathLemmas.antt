-- Where a path leads to a part, splitting finds it, and the other way round.
use Rattle.std.proofs.Common.{◌≡◌, ℕ, suc, ◌+◌, ◌-◌, ◌<◌, arith, Bool, true, false, List, [], ◌∷◌, ◌++◌, length, refl, sym, ap, ◌∙◌, subst, append-nil}
use Rattle.std.proofs.lemmas.Bool.{eqb-true}
use Rattle.std.proofs.lemmas.List.{length-append}
use Rattle.std.specs.Prelude.{◌↔◌, ◌==◌}
use Rattle.asn1_der.specs.Length.{length_octets}
use Rattle.asn1_der.proofs.Elements.{element-parts, element-one}
use Rattle.picky_asn1_der.specs.Raw.{Raw}
use Rattle.picky_asn1_der.specs.Splits.{SplitsInto, IsNoSplit, raw_bytes}
use Rattle.picky_asn1_der.specs.Parts.{AreElements, IsPart, IsPartIn, IsStep}
use Rattle.picky_asn1_der.specs.PathLaws.{AreSome}

-- an input is split in one way
split_one : (input : List ℕ) (raw other : Raw) (rest more : List ℕ) → SplitsInto input raw rest → SplitsInto input other more → rest ≡ more
split_one input raw other rest more left right = (element-one raw.first other.first raw.content other.content rest more (sym left.1 ∙ right.1)).2

pub never : (b : Bool) → b ≡ false → b ≡ true → ⊥
never b isnt is = cc

pub not_empty : (octets : List ℕ) (b : Bool) → b ≡ (length octets == 0) → b ≡ false → octets ≡ [] → ⊥
not_empty octets b is isnt e = let empty : (length octets == 0) ≡ true = ap (λ (l : List ℕ). length l == 0) e in never b isnt (is ∙ empty)

none_in : (octets : List ℕ) → length octets ≡ 0 → octets ≡ []
none_in [] e = refl
none_in (octet ∷ octets) e = absurd (omega (arith, e))

pub is_nothing : (octets : List ℕ) (b : Bool) → b ≡ (length octets == 0) → b ≡ true → octets ≡ []
is_nothing octets b is empty = none_in octets (eqb-true (length octets) 0 (sym is ∙ empty))

-- an element is the one element of its bytes
whole_in : (bytes : List ℕ) (n : ℕ) (path part : List ℕ) → IsPart bytes (n ∷ path) part → IsPartIn bytes 0 (n ∷ path) part
whole_in bytes n path part is =
    (bytes, (is.0 ∷ [], is.0, ([], is.2, refl), refl, is.2.1 ∙ append-nil (raw_bytes is.0)), is)

-- the parts of one element are those in its content
pub inside_whole : (bytes : List ℕ) (raw : Raw) (rest : List ℕ) → IsStep bytes raw rest → rest ≡ [] → (content : List ℕ) → content ≡ raw.content
    → (n : ℕ) (path part : List ℕ) → IsPart bytes (n ∷ path) part ↔ IsPartIn content n path part
inside_whole bytes raw rest step none content same n path part =
    let whole : bytes ≡ raw_bytes raw = step.split.1 ∙ ap (λ (l : List ℕ). raw_bytes raw ++ l) none ∙ append-nil (raw_bytes raw) in (
      λ is. subst (λ (l : List ℕ). IsPartIn l n path part) (sym same) (step.inside n path part (step.first (n ∷ path) part (whole_in bytes n path part is))),
      λ is.
          subst (λ (l : List ℕ). IsPart l (n ∷ path) part) (sym whole)
          (step.from_inside n path part (subst (λ (l : List ℕ). IsPartIn l n path part) same is)),
    )

pub some_whole : (bytes : List ℕ) → IsNoSplit bytes → (n : ℕ) (path part : List ℕ) → IsPart bytes (n ∷ path) part → ⊥
some_whole bytes none n path part is = none is.0 [] is.2

-- nothing follows an element that has parts
pub alone_whole : (bytes : List ℕ) (raw : Raw) (rest : List ℕ) → IsStep bytes raw rest → (rest ≡ [] → ⊥) → (n : ℕ) (path part : List ℕ) → IsPart bytes (n ∷ path) part → ⊥
alone_whole bytes raw rest step some n path part is = some (split_one bytes raw is.0 rest [] step.split is.2)

pub some_in : (bytes : List ℕ) → IsNoSplit bytes → (n : ℕ) (path part : List ℕ) → IsPartIn bytes n path part → ⊥
some_in bytes none n path part (inner, ([], raw, all, found, same), further) = absurd (cc (found))
some_in bytes none n path part (inner, ((first ∷ raws), raw, all, found, same), further) = none first all.0 all.1

-- the bytes after the first of some elements are elements
pub behind_some : (bytes : List ℕ) (raw : Raw) (rest : List ℕ) → IsStep bytes raw rest → (n : ℕ) (path part : List ℕ) → IsPartIn bytes n path part → AreSome rest
behind_some bytes raw rest step n path part (inner, ([], at, all, found, same), further) = absurd (cc (found))
behind_some bytes raw rest step n path part (inner, ((first ∷ raws), at, all, found, same), further) =
    (raws, subst (λ (l : List ℕ). AreElements raws l) (split_one bytes first raw all.0 rest all.1 step.split) all.2)

pub step_first : (bytes : List ℕ) (raw : Raw) (rest : List ℕ) → IsStep bytes raw rest → AreSome rest → (n : ℕ) → n ≡ 0 → (whole : List ℕ) → whole ≡ raw_bytes raw
    → (path part : List ℕ) → IsPartIn bytes n path part ↔ IsPart whole path part
step_first bytes raw rest step behind n none whole same path part = (
  λ p. subst (λ (l : List ℕ). IsPart l path part) (sym same) (step.first path part (subst (λ (k : ℕ). IsPartIn bytes k path part) none p)),
  λ p.
      subst (λ (k : ℕ). IsPartIn bytes k path part) (sym none)
      (step.at_first behind.0 path part behind.1 (subst (λ (l : List ℕ). IsPart l path part) same p)),
)

pub step_later : (bytes : List ℕ) (raw : Raw) (rest : List ℕ) → IsStep bytes raw rest → (n : ℕ) → 0 < n
    → (path part : List ℕ) → IsPartIn bytes n path part ↔ IsPartIn rest (n - 1) path part
step_later bytes raw rest step n some path part =
    let more : n ≡ suc (n - 1) = omega (arith, some) in (
      λ p. step.later (n - 1) path part (subst (λ (k : ℕ). IsPartIn bytes k path part) more p),
      λ p. subst (λ (k : ℕ). IsPartIn bytes k path part) (sym more) (step.at_later (n - 1) path part p),
    )

behind_split : (bytes : List ℕ) (raw : Raw) (rest : List ℕ) → SplitsInto bytes raw rest → (bytes ≡ [] → ⊥) → AreSome bytes → AreSome rest
behind_split bytes raw rest split some ([], none) = absurd (some none)
behind_split bytes raw rest split some ((first ∷ raws), all) =
    (raws, subst (λ (l : List ℕ). AreElements raws l) (split_one bytes first raw all.0 rest all.1 split) all.2)

-- elements, one of which was split off
pub some_step : (bytes : List ℕ) (raw : Raw) (rest : List ℕ) → SplitsInto bytes raw rest → (bytes ≡ [] → ⊥) → AreSome bytes ↔ AreSome rest
some_step bytes raw rest split some = (behind_split bytes raw rest split some, λ some_rest. (raw ∷ some_rest.0, (rest, split, some_rest.1)))

pub no_elements : (bytes : List ℕ) → IsNoSplit bytes → (bytes ≡ [] → ⊥) → AreSome bytes → ⊥
no_elements bytes none some ([], is) = some is
no_elements bytes none some ((first ∷ raws), all) = none first all.0 all.1

-- the bytes after an element are shorter
pub rest_shorter : (bytes : List ℕ) (raw : Raw) (rest : List ℕ) → SplitsInto bytes raw rest → length rest < length bytes
rest_shorter bytes raw rest split =
    let text = split.1 ∙ element-parts raw.first raw.content rest in
    let all : length bytes ≡ suc (length (length_octets (length raw.content) ++ (raw.content ++ rest))) = ap length text in
    let parts : length (length_octets (length raw.content) ++ (raw.content ++ rest)) ≡ length (length_octets (length raw.content)) + (length raw.content + length rest) = simp length-append in
    omega (arith, all, parts)

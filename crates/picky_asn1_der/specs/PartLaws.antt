-- A path leads to one part at most, and elements are found by splitting off one after another.
use Rattle.std.proofs.Common.{◌≡◌, ℕ, suc, List, [], ◌∷◌, Some, refl, sym, ap, ◌∙◌, subst, append-nil}
use Rattle.std.specs.List.{slice_get}
use Rattle.asn1_der.specs.Length.{element}
use Rattle.asn1_der.proofs.Elements.{element-one, element-parts}
use Rattle.picky_asn1_der.specs.Raw.{Raw}
use Rattle.picky_asn1_der.specs.Splits.{SplitsInto, raw_bytes}
use Rattle.picky_asn1_der.specs.Parts.{AreElements, IsElementAt, IsPart, IsPartIn, IsStep}

-- an input is split in one way
split-one : (input : List ℕ) (raw other : Raw) (rest more : List ℕ) → SplitsInto input raw rest → SplitsInto input other more → (raw ≡ other) × (rest ≡ more)
split-one input raw other rest more left right =
    let parts = element-one raw.first other.first raw.content other.content rest more (sym left.1 ∙ right.1) in
    (λ i. record { first = parts.0 i; content = parts.1 i }, parts.2)

no_split_of_nothing : (raw : Raw) (rest : List ℕ) → SplitsInto [] raw rest → ⊥
no_split_of_nothing raw rest split =
    let text = split.1 ∙ element-parts raw.first raw.content rest in cc (text)

-- the bytes are one list of elements
pub elements-one : (raws others : List Raw) (bytes : List ℕ) → AreElements raws bytes → AreElements others bytes → raws ≡ others
elements-one [] [] bytes left right = refl
elements-one [] (other ∷ others) bytes left right =
    absurd (no_split_of_nothing other right.0 (subst (λ (l : List ℕ). SplitsInto l other right.0) left right.1))
elements-one (raw ∷ raws) [] bytes left right =
    absurd (no_split_of_nothing raw left.0 (subst (λ (l : List ℕ). SplitsInto l raw left.0) right left.1))
elements-one (raw ∷ raws) (other ∷ others) bytes left right =
    let heads = split-one bytes raw other left.0 right.0 left.1 right.1 in
    let tails = elements-one raws others right.0 (subst (λ (l : List ℕ). AreElements raws l) heads.1 left.2) right.2 in
    ap (λ r. r ∷ raws) heads.0 ∙ ap (λ l. other ∷ l) tails

pub element-at-one : (n : ℕ) (bytes part other : List ℕ) → IsElementAt n bytes part → IsElementAt n bytes other → part ≡ other
element-at-one n bytes part other left right =
    let lists : left.0 ≡ right.0 = elements-one left.0 right.0 bytes left.2 right.2 in
    let found : Some left.1 ≡ Some right.1 = sym left.3 ∙ ap (λ raws. slice_get raws n) lists ∙ right.3 in
    let same : left.1 ≡ right.1 = cc (found) in
    left.4 ∙ ap (λ (raw : Raw). element raw.first raw.content) same ∙ sym right.4

-- a path leads to one part at most
pub part-one : (path bytes part other : List ℕ) → IsPart bytes path part → IsPart bytes path other → part ≡ other
part-one [] bytes part other left right = left ∙ sym right
part-one (n ∷ path) bytes part other left right =
    let same = (split-one bytes left.0 right.0 [] [] left.2 right.2).0 in
    let content : left.0.content ≡ right.0.content = ap (λ (raw : Raw). raw.content) same in
    let inner : left.1 ≡ right.1 =
    element-at-one n right.0.content left.1 right.1 (subst (λ (l : List ℕ). IsElementAt n l left.1) content left.3) right.3 in
    part-one path right.1 part other (subst (λ (l : List ℕ). IsPart l path part) inner left.4) right.4

-- where an element is split off, it has the number 0, and each further one is numbered by one less in the rest
pub first-of-split : (input : List ℕ) (raw : Raw) (rest part : List ℕ) → SplitsInto input raw rest → IsElementAt 0 input part → part ≡ element raw.first raw.content
first-of-split input raw rest part split ([], at, none, found, is) = absurd (cc (found))
first-of-split input raw rest part split ((first ∷ raws), at, all, found, is) =
    let same = (split-one input first raw all.0 rest all.1 split).0 in
    let which : Some first ≡ Some at = found in
    let this : first ≡ at = cc (which) in
    is ∙ ap (λ (r : Raw). element r.first r.content) (sym this ∙ same)

pub later-of-split : (n : ℕ) (input : List ℕ) (raw : Raw) (rest part : List ℕ) → SplitsInto input raw rest → IsElementAt (suc n) input part → IsElementAt n rest part
later-of-split n input raw rest part split ([], at, none, found, is) = absurd (cc (found))
later-of-split n input raw rest part split ((first ∷ raws), at, all, found, is) =
    let same = (split-one input first raw all.0 rest all.1 split).1 in
    (raws, at, subst (λ (l : List ℕ). AreElements raws l) same all.2, found, is)

-- and the other way round, where the rest is elements
pub split-of-first : (input : List ℕ) (raw : Raw) (rest : List ℕ) (raws : List Raw) → SplitsInto input raw rest → AreElements raws rest
    → IsElementAt 0 input (element raw.first raw.content)
split-of-first input raw rest raws split all = (raw ∷ raws, raw, (rest, split, all), refl, refl)

pub split-of-later : (n : ℕ) (input : List ℕ) (raw : Raw) (rest part : List ℕ) → SplitsInto input raw rest → IsElementAt n rest part → IsElementAt (suc n) input part
split-of-later n input raw rest part split (raws, at, all, found, is) = (raw ∷ raws, at, (rest, split, all), found, is)

-- an element is split into itself and nothing
whole_split : (input : List ℕ) (raw : Raw) (rest : List ℕ) → SplitsInto input raw rest → SplitsInto (raw_bytes raw) raw []
whole_split input raw rest split = (split.0, sym (append-nil (raw_bytes raw)))

inside_part : (input : List ℕ) (raw : Raw) (rest : List ℕ) (n : ℕ) (path part : List ℕ) → SplitsInto input raw rest
    → IsPart (raw_bytes raw) (n ∷ path) part → IsPartIn raw.content n path part
inside_part input raw rest n path part split (other, inner, splits, at, further) =
    let same : other ≡ raw = (split-one (raw_bytes raw) other raw [] [] splits (whole_split input raw rest split)).0 in
    (inner, subst (λ (r : Raw). IsElementAt n r.content inner) same at, further)

pub split-step : (input : List ℕ) (raw : Raw) (rest : List ℕ) → SplitsInto input raw rest → IsStep input raw rest
split-step input raw rest split = record {
  split = split;
  first = λ path part (inner, at, further). subst (λ (l : List ℕ). IsPart l path part) (first-of-split input raw rest inner split at) further;
  at_first = λ raws path part all further. (raw_bytes raw, split-of-first input raw rest raws split all, further);
  later = λ n path part (inner, at, further). (inner, later-of-split n input raw rest inner split at, further);
  at_later = λ n path part (inner, at, further). (inner, split-of-later n input raw rest inner split at, further);
  inside = λ n path part is. inside_part input raw rest n path part split is;
  from_inside = λ n path part (inner, at, further). (raw, inner, whole_split input raw rest split, at, further);
}

-- A value whose spelling another element holds is distinguished by that element.
use Rattle.std.proofs.Common.{◌≡◌, ℕ, ◌+◌, Bool, true, false, List, refl, sym, ap, ◌∙◌, subst, arith}
use Rattle.std.specs.Prelude.{◌%◌, ◌==◌, not}
use Rattle.std.proofs.lemmas.Bool.{eqb-true}
use Rattle.asn1_der.specs.Tree.{Tree, Trees, wrapped, der, IsWhole, AreWhole}
use Rattle.asn1_der.specs.Length.{element}
use Rattle.asn1_der.specs.Firsts.{Firsts, only}
use Rattle.asn1_der.proofs.Elements.{element-split, element-content}
use Rattle.asn1_der.proofs.Spelling.{IsInjective, may_begin-only, der-wrapped, wrapped-whole, whole-wrapped}
use Rattle.picky_asn1_der.specs.Raw.{has_low_number}
use Rattle.x509_spelling.specs.Spellings.{has_low_tag, Holds}
use Rattle.x509_spelling.specs.Laws.{SpellingLaws, RowLaws}
use Rattle.x509_spelling.specs.Kinds.{MadeOf}

-- one element that holds a spelling
pub holding_laws : {T : Type 0} (first : ℕ) → has_low_number first ≡ true → (is_low : Bool) (firsts : Firsts) (tree : T → Tree) (spells : T → List ℕ → ℕ → Type 0)
    → SpellingLaws is_low firsts tree spells → SpellingLaws true (only first) (λ v. wrapped first (tree v)) (Holds first spells)
holding_laws first low is_low firsts tree spells laws = record {
  strict = λ v whole.
      let inner = wrapped-whole first (tree v) whole in
      (der (tree v), laws.strict v inner, der-wrapped first (tree v) inner);
  only = λ v b s.
      s.2 ∙ ap (element first) (laws.only v s.0 s.1) ∙ sym (der-wrapped first (tree v) (laws.whole v s.0 0 s.1));
  whole = λ v b n s. whole-wrapped first (tree v) (laws.whole v s.0 n s.1);
  one = λ v w b m n s r.
      let same = element-content first s.0 r.0 (sym s.2 ∙ r.2) in
      laws.one v w r.0 m n (subst (λ (l : List ℕ). spells v l m) same s.1) r.1;
  element_of = λ v b n s. (first, s.0, may_begin-only first, s.2);
  low = λ _ v b n s. subst (λ (l : List ℕ). has_low_tag l ≡ true) (sym (s.2 ∙ element-split first s.0)) low;
}

no_count : (m k : ℕ) → 0 ≡ m + k → (m ≡ 0) × (k ≡ 0)
no_count m k e = (omega arith, omega arith)

untrue : (b : Bool) → (b ≡ true → ⊥) → not b ≡ true
untrue true never = absurd (never refl)
untrue false never = refl

not_last : (n : ℕ) → (160 + n % 16) % 32 ≡ 31 → ⊥
not_last n e = omega (arith, e)

-- a context tag below 16 is in one octet
pub low_tag : (n : ℕ) → has_low_number (160 + n % 16) ≡ true
low_tag n = untrue ((160 + n % 16) % 32 == 31) (λ e. not_last n (eqb-true ((160 + n % 16) % 32) 31 e))

-- values of which the strict spelling tells them are distinguished by what they are written as
pub laws_injective : {T : Type 0} (is_low : Bool) (firsts : Firsts) (tree : T → Tree) (spells : T → List ℕ → ℕ → Type 0)
    → SpellingLaws is_low firsts tree spells → IsInjective tree
laws_injective is_low firsts tree spells laws v w whole also e =
    (laws.one v w (der (tree w)) 0 0 (subst (λ (b : List ℕ). spells v b 0) e (laws.strict v whole)) (laws.strict w also)).0

-- A value made of what is read: `value_of` makes it, and it is written as `strict_of`. Whatever else is read for the same value has
-- deviations of its own.
module _ {R T : Type 0} (is_low : Bool) (firsts : Firsts) (tree : R → Tree) (spells : R → List ℕ → ℕ → Type 0) (laws : SpellingLaws is_low firsts tree spells)
    (value_of : R → T) (own_count : R → ℕ) (strict_of : T → R) where
  pub made_laws : ((v : T) → value_of (strict_of v) ≡ v) → ((v : T) → own_count (strict_of v) ≡ 0) → ((r : R) → own_count r ≡ 0 → r ≡ strict_of (value_of r))
      → ((r : R) → IsWhole (tree r) → IsWhole (tree (strict_of (value_of r)))) → SpellingLaws is_low firsts (λ v. tree (strict_of v)) (MadeOf spells value_of own_count)
  made_laws back none only whole = record {
    strict = λ v is_whole. (strict_of v, 0, laws.strict (strict_of v) is_whole, back v, ap (λ (k : ℕ). 0 + k) (sym (none v)));
    only = λ v b s.
        let zero = no_count s.1 (own_count s.0) s.4 in
        laws.only s.0 b (subst (λ (k : ℕ). spells s.0 b k) zero.0 s.2) ∙ ap (λ (r : R). der (tree r)) (only s.0 zero.1 ∙ ap strict_of s.3);
    whole = λ v b n s. subst (λ (x : T). IsWhole (tree (strict_of x))) s.3 (whole s.0 (laws.whole s.0 b s.1 s.2));
    one = λ v w b m n s r.
        let same = laws.one s.0 r.0 b s.1 r.1 s.2 r.2 in
        (sym s.3 ∙ ap value_of same.0 ∙ r.3, s.4 ∙ (λ i. same.1 i + own_count (same.0 i)) ∙ sym r.4);
    element_of = λ v b n s. laws.element_of s.0 b s.1 s.2;
    low = λ low v b n s. laws.low low s.0 b s.1 s.2;
  }

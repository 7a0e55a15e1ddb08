-- A field of a SEQUENCE is distinguished by the bytes that it begins, and they say where it ends.
use Rattle.std.proofs.Common.{◌≡◌, ℕ, ◌+◌, Bool, true, false, List, [], ◌∷◌, ◌++◌, Option, None, Some, refl, sym, ap, ◌∙◌, subst, inl, inr, arith}
use Rattle.std.specs.Prelude.{IsTrue, ◌&&◌}
use Rattle.std.proofs.lemmas.Bool.{and_parts}
use Rattle.asn1_der.specs.Tree.{Tree, Trees, more, der, ders, IsWhole, AreWhole, put}
use Rattle.asn1_der.specs.Length.{element}
use Rattle.asn1_der.specs.Firsts.{Firsts, may_begin, either, apart}
use Rattle.asn1_der.proofs.Elements.{element-one, element-parts, element-begins}
use Rattle.asn1_der.proofs.Rows.{may_begin-either_left, may_begin-either_right, apart-none}
use Rattle.picky_asn1_der.specs.Defaults.{unless, told_value}
use Rattle.x509_spelling.specs.Deviations.{Deviation, counted}
use Rattle.x509_spelling.specs.Spellings.{Leads, begins, LeadsOptional, LeadsDefault, LeadsImplied}
use Rattle.x509_spelling.specs.Laws.{SpellingLaws, FieldLaws, Starts}

not_true : (b : Bool) → (b ≡ true → ⊥) → b ≡ false
not_true true never = absurd (never refl)
not_true false never = refl

-- bytes that start with other tags don't begin with these
apart-begins : (firsts others : Firsts) → apart firsts others ≡ true → (b : List ℕ) → Starts others b → begins firsts b ≡ false
apart-begins firsts others distinct [] starts = refl
apart-begins firsts others distinct (octet ∷ b) starts =
    not_true (may_begin firsts octet) (λ is. apart-none firsts others octet distinct is (starts octet b refl))

no_count : (m k : ℕ) → 0 ≡ m + k → (m ≡ 0) × (k ≡ 0)
no_count m k e = (omega arith, omega arith)

uncounted : (deviation : Deviation) (b : Bool) → counted deviation b ≡ 0 → b ≡ false
uncounted deviation false e = refl
uncounted deviation true e = absurd (omega arith)

both : (b : Bool) → b ≡ true → b ≡ false → ⊥
both b is isnt = cc

module _ {T : Type 0} (is_low : Bool) (firsts : Firsts) (tree : T → Tree) (spells : T → List ℕ → ℕ → Type 0) (laws : SpellingLaws is_low firsts tree spells) where
  -- bytes begin with one spelling
  pub leads-one : (v w : T) (b x y : List ℕ) (m n : ℕ) → Leads spells v b x m → Leads spells w b y n → (v ≡ w) × (x ≡ y) × (m ≡ n)
  leads-one v w b x y m n left right =
      let l = laws.element_of v left.0 m left.1 in
      let r = laws.element_of w right.0 n right.1 in
      let text : element l.0 l.1 ++ x ≡ element r.0 r.1 ++ y =
      ap (λ (f : List ℕ). f ++ x) (sym l.3) ∙ sym left.3 ∙ right.3 ∙ ap (λ (f : List ℕ). f ++ y) r.3 in
      let parts = element-one l.0 r.0 l.1 r.1 x y text in
      let fronts : left.0 ≡ right.0 = l.3 ∙ (λ i. element (parts.0 i) (parts.1 i)) ∙ sym r.3 in
      let same = laws.one v w right.0 m n (subst (λ (f : List ℕ). spells v f m) fronts left.1) right.1 in
      (same.0, parts.2, same.1)

  pub leads-begins : (v : T) (b rest : List ℕ) (n : ℕ) → Leads spells v b rest n → begins firsts b ≡ true
  leads-begins v b rest n s =
      let l = laws.element_of v s.0 n s.1 in
      let text = s.3 ∙ ap (λ (f : List ℕ). f ++ rest) l.3 ∙ element-parts l.0 l.1 rest in
      subst (λ (t : List ℕ). begins firsts t ≡ true) (sym text) l.2

  leads-starts : (v : T) (b rest : List ℕ) (n : ℕ) → Leads spells v b rest n → Starts firsts b
  leads-starts v b rest n s octet tail e =
      let l = laws.element_of v s.0 n s.1 in
      subst (λ (o : ℕ). IsTrue (may_begin firsts o)) (element-begins l.0 l.1 octet tail rest (ap (λ (f : List ℕ). f ++ rest) (sym l.3) ∙ sym s.3 ∙ e)) l.2

  leads-only : (v : T) (ts : Trees) (b rest : List ℕ) → Leads spells v b rest 0 → rest ≡ ders ts → b ≡ der (tree v) ++ ders ts
  leads-only v ts b rest s e = s.3 ∙ (λ i. laws.only v s.0 s.1 i ++ e i)

  pub leads-strict : IsTrue is_low → (v : T) (rest : List ℕ) → IsWhole (tree v) → Leads spells v (der (tree v) ++ rest) rest 0
  leads-strict low v rest whole =
      let s = laws.strict v whole in (der (tree v), s, laws.low low v (der (tree v)) 0 s, refl)

  pub required_laws : FieldLaws (λ _. firsts) (λ _. is_low) (λ v ts. more (tree v) ts) (Leads spells)
  required_laws = record {
    strict = λ v ts others told starts whole. (leads-strict told v (ders ts) whole.0, whole.1);
    only = leads-only;
    whole = λ v ts b rest n s whole. (laws.whole v s.0 n s.1, whole);
    one = leads-one;
    starts = λ v b rest n others s next. leads-starts v b rest n s;
  }

  optional-strict : (v : Option T) (ts : Trees) (others : Firsts) → IsTrue is_low → IsTrue (apart firsts others) → (AreWhole ts → Starts others (ders ts))
      → AreWhole (put tree v ts) → LeadsOptional firsts spells v (ders (put tree v ts)) (ders ts) 0 × AreWhole ts
  optional-strict None ts others low told starts whole = ((apart-begins firsts others told (ders ts) (starts whole), refl, refl), whole)
  optional-strict (Some v) ts others low told starts whole = (leads-strict low v (ders ts) whole.0, whole.1)

  optional-only : (v : Option T) (ts : Trees) (b rest : List ℕ) → LeadsOptional firsts spells v b rest 0 → rest ≡ ders ts → b ≡ ders (put tree v ts)
  optional-only None ts b rest s e = sym s.1 ∙ e
  optional-only (Some v) ts b rest s e = leads-only v ts b rest s e

  optional-whole : (v : Option T) (ts : Trees) (b rest : List ℕ) (n : ℕ) → LeadsOptional firsts spells v b rest n → AreWhole ts → AreWhole (put tree v ts)
  optional-whole None ts b rest n s whole = whole
  optional-whole (Some v) ts b rest n s whole = (laws.whole v s.0 n s.1, whole)

  optional-one : (v w : Option T) (b x y : List ℕ) (m n : ℕ) → LeadsOptional firsts spells v b x m → LeadsOptional firsts spells w b y n → (v ≡ w) × (x ≡ y) × (m ≡ n)
  optional-one None None b x y m n s r = (refl, s.1 ∙ sym r.1, s.2 ∙ sym r.2)
  optional-one None (Some w) b x y m n s r = absurd (both (begins firsts b) (leads-begins w b y n r) s.0)
  optional-one (Some v) None b x y m n s r = absurd (both (begins firsts b) (leads-begins v b x m s) r.0)
  optional-one (Some v) (Some w) b x y m n s r = let same = leads-one v w b x y m n s r in (ap Some same.0, same.1, same.2)

  optional-starts : (v : Option T) (b rest : List ℕ) (n : ℕ) (others : Firsts) → LeadsOptional firsts spells v b rest n → Starts others rest → Starts (either firsts others) b
  optional-starts None b rest n others s next octet tail e = may_begin-either_right firsts others octet (next octet tail (s.1 ∙ e))
  optional-starts (Some v) b rest n others s next octet tail e = may_begin-either_left firsts others octet (leads-starts v b rest n s octet tail e)

  pub optional_laws : FieldLaws (λ others. either firsts others) (λ others. is_low && apart firsts others) (put tree) (LeadsOptional firsts spells)
  optional_laws = record {
    strict = λ v ts others told. let both_are = and_parts is_low (apart firsts others) told in optional-strict v ts others both_are.0 both_are.1;
    only = optional-only;
    whole = optional-whole;
    one = optional-one;
    starts = optional-starts;
  }

  -- A field whose default value isn't written.
  module _ (is_default : T → Bool) (one_default : (v w : T) → IsTrue (is_default v) → IsTrue (is_default w) → v ≡ w) (deviation : Deviation) where
    default-strict : (v : T) (ts : Trees) (others : Firsts) → IsTrue is_low → IsTrue (apart firsts others) → (AreWhole ts → Starts others (ders ts)) → (is : Bool) → is_default v ≡ is
        → AreWhole (put tree (unless is v) ts) → LeadsDefault firsts spells is_default deviation v (ders (put tree (unless is v) ts)) (ders ts) 0 × AreWhole ts
    default-strict v ts others low told starts true e whole = (inl (e, apart-begins firsts others told (ders ts) (starts whole), refl, refl), whole)
    default-strict v ts others low told starts false e whole =
        (inr (0, leads-strict low v (ders ts) whole.0, sym (ap (λ d. 0 + counted deviation d) e)), whole.1)

    default-only : (v : T) (ts : Trees) (b rest : List ℕ) → LeadsDefault firsts spells is_default deviation v b rest 0 → rest ≡ ders ts → b ≡ ders (put tree (told_value is_default v) ts)
    default-only v ts b rest (inl s) e = sym s.2 ∙ e ∙ ap (λ d. ders (put tree (unless d v) ts)) (sym s.0)
    default-only v ts b rest (inr s) e =
        let none = no_count s.0 (counted deviation (is_default v)) s.2 in
        leads-only v ts b rest (subst (λ (k : ℕ). Leads spells v b rest k) none.0 s.1) e
        ∙ ap (λ d. ders (put tree (unless d v) ts)) (sym (uncounted deviation (is_default v) none.1))

    default_is-whole : (v : T) (ts : Trees) (is : Bool) → IsWhole (tree v) → AreWhole ts → AreWhole (put tree (unless is v) ts)
    default_is-whole v ts true whole also = also
    default_is-whole v ts false whole also = (whole, also)

    default-whole : (v : T) (ts : Trees) (b rest : List ℕ) (n : ℕ) → LeadsDefault firsts spells is_default deviation v b rest n → AreWhole ts → AreWhole (put tree (told_value is_default v) ts)
    default-whole v ts b rest n (inl s) whole = subst (λ d. AreWhole (put tree (unless d v) ts)) (sym s.0) whole
    default-whole v ts b rest n (inr s) whole = default_is-whole v ts (is_default v) (laws.whole v s.1.0 s.0 s.1.1) whole

    default-one : (v w : T) (b x y : List ℕ) (m n : ℕ) → LeadsDefault firsts spells is_default deviation v b x m → LeadsDefault firsts spells is_default deviation w b y n
        → (v ≡ w) × (x ≡ y) × (m ≡ n)
    default-one v w b x y m n (inl s) (inl r) = (one_default v w s.0 r.0, s.2 ∙ sym r.2, s.3 ∙ sym r.3)
    default-one v w b x y m n (inl s) (inr r) = absurd (both (begins firsts b) (leads-begins w b y r.0 r.1) s.1)
    default-one v w b x y m n (inr s) (inl r) = absurd (both (begins firsts b) (leads-begins v b x s.0 s.1) r.1)
    default-one v w b x y m n (inr s) (inr r) =
        let same = leads-one v w b x y s.0 r.0 s.1 r.1 in
        (same.0, same.1, s.2 ∙ (λ i. same.2 i + counted deviation (is_default (same.0 i))) ∙ sym r.2)

    default-starts : (v : T) (b rest : List ℕ) (n : ℕ) (others : Firsts) → LeadsDefault firsts spells is_default deviation v b rest n → Starts others rest → Starts (either firsts others) b
    default-starts v b rest n others (inl s) next octet tail e = may_begin-either_right firsts others octet (next octet tail (s.2 ∙ e))
    default-starts v b rest n others (inr s) next octet tail e = may_begin-either_left firsts others octet (leads-starts v b rest s.0 s.1 octet tail e)

    pub default_laws : FieldLaws (λ others. either firsts others) (λ others. is_low && apart firsts others) (λ v ts. put tree (told_value is_default v) ts) (LeadsDefault firsts spells is_default deviation)
    default_laws = record {
      strict = λ v ts others told starts.
          let both_are = and_parts is_low (apart firsts others) told in default-strict v ts others both_are.0 both_are.1 starts (is_default v) refl;
      only = default-only;
      whole = default-whole;
      one = default-one;
      starts = default-starts;
    }

  -- A field whose default value is written, and deviates where it is missing.
  module _ (is_default : T → Bool) (one_default : (v w : T) → IsTrue (is_default v) → IsTrue (is_default w) → v ≡ w) (deviation : Deviation) where
    implied-only : (v : T) (ts : Trees) (b rest : List ℕ) → LeadsImplied firsts tree spells is_default deviation v b rest 0 → rest ≡ ders ts → b ≡ der (tree v) ++ ders ts
    implied-only v ts b rest (inl s) e = absurd (omega (arith, s.4))
    implied-only v ts b rest (inr s) e = leads-only v ts b rest s e

    implied-whole : (v : T) (b rest : List ℕ) (n : ℕ) → LeadsImplied firsts tree spells is_default deviation v b rest n → IsWhole (tree v)
    implied-whole v b rest n (inl s) = s.1
    implied-whole v b rest n (inr s) = laws.whole v s.0 n s.1

    implied-one : (v w : T) (b x y : List ℕ) (m n : ℕ) → LeadsImplied firsts tree spells is_default deviation v b x m → LeadsImplied firsts tree spells is_default deviation w b y n
        → (v ≡ w) × (x ≡ y) × (m ≡ n)
    implied-one v w b x y m n (inl s) (inl r) = (one_default v w s.0 r.0, s.3 ∙ sym r.3, s.4 ∙ sym r.4)
    implied-one v w b x y m n (inl s) (inr r) = absurd (both (begins firsts b) (leads-begins w b y n r) s.2)
    implied-one v w b x y m n (inr s) (inl r) = absurd (both (begins firsts b) (leads-begins v b x m s) r.2)
    implied-one v w b x y m n (inr s) (inr r) = leads-one v w b x y m n s r

    implied-starts : (v : T) (b rest : List ℕ) (n : ℕ) (others : Firsts) → LeadsImplied firsts tree spells is_default deviation v b rest n → Starts others rest → Starts (either firsts others) b
    implied-starts v b rest n others (inl s) next octet tail e = may_begin-either_right firsts others octet (next octet tail (s.3 ∙ e))
    implied-starts v b rest n others (inr s) next octet tail e = may_begin-either_left firsts others octet (leads-starts v b rest n s octet tail e)

    pub implied_laws : FieldLaws (λ others. either firsts others) (λ _. is_low) (λ v ts. more (tree v) ts) (LeadsImplied firsts tree spells is_default deviation)
    implied_laws = record {
      strict = λ v ts others told starts whole. (inr (leads-strict told v (ders ts) whole.0), whole.1);
      only = implied-only;
      whole = λ v ts b rest n s whole. (implied-whole v b rest n s, whole);
      one = implied-one;
      starts = implied-starts;
    }

-- a field that is distinguished by what it holds
pub held_field : {A B : Type 0} (before : Firsts → Firsts) (is_told : Firsts → Bool) (place : B → Trees → Trees) (leads : B → List ℕ → List ℕ → ℕ → Type 0)
    → FieldLaws before is_told place leads → (held : A → B) → ((v w : A) → held v ≡ held w → v ≡ w)
    → FieldLaws before is_told (λ v. place (held v)) (λ v. leads (held v))
held_field before is_told place leads laws held told = record {
  strict = λ v. laws.strict (held v);
  only = λ v. laws.only (held v);
  whole = λ v. laws.whole (held v);
  one = λ v w b x y m n s r. let same = laws.one (held v) (held w) b x y m n s r in (told v w same.0, same.1, same.2);
  starts = λ v. laws.starts (held v);
}

-- A spelling is an element, and a field of a SEQUENCE is an element of its content.
use Rattle.std.proofs.Common.{◌≡◌, ℕ, suc, ◌+◌, Bool, true, List, [], ◌∷◌, ◌++◌, refl, sym, ◌∙◌, subst}
use Rattle.std.specs.Prelude.{⊤, IsTrue}
use Rattle.asn1_der.specs.Tree.{Tree}
use Rattle.asn1_der.specs.Firsts.{Firsts}
use Rattle.asn1_der.proofs.Elements.{element-split}
use Rattle.picky_asn1_der.specs.Raw.{has_low_number}
use Rattle.picky_asn1_der.specs.PathLaws.{IsElement, AreSome, LeadsTo, LeadsIn, in_element, some_more, at_front, behind_front, at_alone, go_on}
use Rattle.x509_spelling.specs.Spellings.{has_low_tag, Leads, IsEnd, Joins, Holds}
use Rattle.x509_spelling.specs.Laws.{SpellingLaws}
use Rattle.asn1_der.specs.Octets.{sequence_octet}

-- each spelling is an element, whose tag is in one octet
abbrev pub SpellsElements : {T : Type 0} → (T → List ℕ → ℕ → Type 0) → Type 0
SpellsElements {T} spells = (v : T) (b : List ℕ) (n : ℕ) → spells v b n → IsElement b

pub spells_elements : {T : Type 0} (is_low : Bool) (firsts : Firsts) (tree : T → Tree) (spells : T → List ℕ → ℕ → Type 0) → SpellingLaws is_low firsts tree spells
    → IsTrue is_low → SpellsElements spells
spells_elements is_low firsts tree spells laws low v b n s =
    let l = laws.element_of v b n s in
    (l.0, l.1, subst (λ (f : List ℕ). has_low_tag f ≡ true) (l.3 ∙ element-split l.0 l.1) (laws.low low v b n s), l.3)

-- an element of this identifier octet that holds a spelling
pub held_are : {T W : Type 0} (spells : T → List ℕ → ℕ → Type 0) (first : ℕ) → has_low_number first ≡ true → (held : W → T)
    → SpellsElements (λ (w : W). Holds first spells (held w))
held_are spells first low held v b n s = (first, s.0, low, s.2)

low_front : (b : List ℕ) → IsElement b → has_low_tag b ≡ true
low_front b e = subst (λ (l : List ℕ). has_low_tag l ≡ true) (sym (e.3 ∙ element-split e.0 e.1)) e.2

-- no further field
abbrev pub Ends : ⊤ → List ℕ → ℕ → Type 0
Ends end bytes n = IsEnd bytes n

-- a field in front of others
abbrev pub Row : {A B : Type 0} → (A → List ℕ → ℕ → Type 0) → (B → List ℕ → ℕ → Type 0) → A × B → List ℕ → ℕ → Type 0
Row spells others f bytes n = Joins (Leads spells) others f.0 f.1 bytes n

pub ended : (f : ⊤) (b : List ℕ) (n : ℕ) → Ends f b n → AreSome b
ended f b n s = ([], s.0)

-- a spelling in front of others
pub in_front : {A B : Type 0} (spells : A → List ℕ → ℕ → Type 0) → SpellsElements spells → (others : B → List ℕ → ℕ → Type 0) (f : A × B) (front rest : List ℕ) (m k : ℕ)
    → spells f.0 front m → others f.1 rest k → Row spells others f (front ++ rest) (m + k)
in_front spells are others f front rest m k s o = (rest, m, k, (front, s, low_front front (are f.0 front m s), refl), o, refl)

-- the paths to the first field and to those that follow it
module _ {A B : Type 0} (spells : A → List ℕ → ℕ → Type 0) (are : SpellsElements spells) (others : B → List ℕ → ℕ → Type 0)
    (f : A × B) (b : List ℕ) (n : ℕ) (s : Row spells others f b n) where
  pub row_some : AreSome s.0 → AreSome b
  row_some = some_more s.3.0 s.0 b (are f.0 s.3.0 s.1 s.3.1) s.3.3

  pub row_front : AreSome s.0 → LeadsIn b 0 s.3.0
  row_front = at_front s.3.0 s.0 b (are f.0 s.3.0 s.1 s.3.1) s.3.3

  pub row_behind : (k : ℕ) (inner : List ℕ) → LeadsIn s.0 k inner → LeadsIn b (suc k) inner
  row_behind = behind_front s.3.0 s.0 b (are f.0 s.3.0 s.1 s.3.1) s.3.3

-- bytes that are spelled so, to which the path leads
pub record Found (spelled : List ℕ → ℕ → Type 0) (bytes path : List ℕ) : Type 0 where
  pub inner : List ℕ
  pub count : ℕ
  pub is : spelled inner count
  pub leads : LeadsTo bytes path inner

-- what is found in what was found
pub found_on : (spelled further : List ℕ → ℕ → Type 0) (bytes p q : List ℕ) (found : Found spelled bytes p) → Found further found.inner q → Found further bytes (p ++ q)
found_on spelled further bytes p q found then = record {
  inner = then.inner;
  count = then.count;
  is = then.is;
  leads = go_on bytes found.inner then.inner p q found.leads then.leads;
}

-- what one element holds alone
pub alone_in : {T : Type 0} (spells : T → List ℕ → ℕ → Type 0) → SpellsElements spells → (first : ℕ) → has_low_number first ≡ true → (v : T) (bytes path : List ℕ)
    → Found (Holds first spells v) bytes path → Found (spells v) bytes (path ++ (0 ∷ []))
alone_in spells are first low v bytes path found =
    let s = found.is in
    let held : LeadsTo found.inner (0 ∷ []) s.0 = in_element first s.0 found.inner low s.2 0 s.0 (at_alone s.0 (are v s.0 found.count s.1)) in
    record { inner = s.0; count = found.count; is = s.1; leads = go_on bytes found.inner s.0 path (0 ∷ []) found.leads held }

-- the second of two fields is the element number 1
pub second_in : {A B : Type 0} (a_spells : A → List ℕ → ℕ → Type 0) → SpellsElements a_spells → (b_spells : B → List ℕ → ℕ → Type 0) → SpellsElements b_spells
    → (f : A × (B × ⊤)) (b : List ℕ) (n : ℕ) → Holds sequence_octet (Row a_spells (Row b_spells Ends)) f b n → Found (b_spells f.1.0) b (1 ∷ [])
second_in a_spells a_are b_spells b_are f b n s =
    let r0 = s.1 in
    let r1 = r0.4 in
    record {
      inner = r1.3.0;
      count = r1.1;
      is = r1.3.1;
      leads =
          in_element sequence_octet s.0 b refl s.2 1 r1.3.0
          (row_behind a_spells a_are (Row b_spells Ends) f s.0 n r0 0 r1.3.0
          (row_front b_spells b_are Ends f.1 r0.0 r0.2 r1 (ended f.1.1 r1.0 r1.2 r1.4)));
    }

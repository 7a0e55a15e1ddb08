-- The elements of a list, read one after another.
use Rattle.std.proofs.Common.{◌≡◌, Bool, ℕ, ◌+◌, ◌<◌, List, [], ◌∷◌, ◌++◌, length, refl, sym, ap, ◌∙◌, subst, arith, append_assoc, append-nil, length-append}
use Rattle.asn1_der.specs.Tree.{Tree}
use Rattle.asn1_der.specs.Firsts.{Firsts}
use Rattle.asn1_der.proofs.Elements.{length-element}
use Rattle.x509_spelling.specs.declared.fault.X509Fault.{X509Fault}
use Rattle.x509_spelling.specs.Answers.{IsRefusal}
use Rattle.x509_spelling.specs.Spellings.{Leads, AreMany}
use Rattle.x509_spelling.specs.Laws.{SpellingLaws}
use Rattle.x509_spelling.specs.FieldLaws.{leads-one}
use Rattle.x509_spelling.proofs.Refusals.{refused_by}

-- these items were read, with this count. Before the items of the rest they are the items of the content. If the content
-- has items, so has the rest
pub record Gone {T : Type 0} (spells : T → List ℕ → ℕ → Type 0) (content : List ℕ) (items : List T) (count : ℕ) (rest : List ℕ) : Type 0 where
  pub forward : (vs : List T) (k : ℕ) → AreMany spells vs rest k → AreMany spells (items ++ vs) content (count + k)
  pub backward : (ws : List T) (n : ℕ) → AreMany spells ws content n → (vs : List T) × (k : ℕ) × AreMany spells vs rest k

module _ {T : Type 0} (is_low : Bool) (firsts : Firsts) (tree : T → Tree) (spells : T → List ℕ → ℕ → Type 0) (laws : SpellingLaws is_low firsts tree spells) (content : List ℕ) where
  pub gone-none : (items : List T) → items ≡ [] → Gone spells content items 0 content
  gone-none items e = record {
    forward = λ vs k s.
        let counts : k ≡ 0 + k = omega arith in
        subst (λ (n : ℕ). AreMany spells (items ++ vs) content n) counts (subst (λ (l : List T). AreMany spells (l ++ vs) content k) (sym e) s);
    backward = λ ws n s. (ws, n, s);
  }

  -- where something is left, an element is there
  pub next : (vs : List T) (rest : List ℕ) (k : ℕ) → (rest ≡ [] → ⊥) → AreMany spells vs rest k
      → (v : T) × (m : ℕ) × (behind : List ℕ) × Leads spells v rest behind m × ((ws : List T) × (n : ℕ) × AreMany spells ws behind n)
  next [] rest k some s = absurd (some s.0)
  next (v ∷ vs) rest k some s = (v, s.1, s.0, s.3, (vs, s.2, s.4))

  pub gone-more : (items longer : List T) (count sum : ℕ) (rest behind : List ℕ) (v : T) (m : ℕ) → Gone spells content items count rest → (rest ≡ [] → ⊥)
      → Leads spells v rest behind m → longer ≡ items ++ (v ∷ []) → sum ≡ count + m → Gone spells content longer sum behind
  gone-more items longer count sum rest behind v m gone some read is counts = record {
    forward = λ vs k s.
        let all : AreMany spells (items ++ (v ∷ vs)) content (count + (m + k)) = gone.forward (v ∷ vs) (m + k) (behind, m, k, read, s, refl) in
        let sums : count + (m + k) ≡ sum + k = omega (arith, counts) in
        let lists : items ++ (v ∷ vs) ≡ longer ++ vs = sym (ap (λ (l : List T). l ++ vs) is ∙ append_assoc items (v ∷ []) vs) in
        subst (λ (n : ℕ). AreMany spells (longer ++ vs) content n) sums (subst (λ (l : List T). AreMany spells l content (count + (m + k))) lists all);
    backward = λ ws n s.
        let tail = gone.backward ws n s in
        let found = next tail.0 rest tail.1 some tail.2 in
        let same = leads-one is_low firsts tree spells laws found.0 v rest found.2 behind found.1 m found.3 read in
        (found.4.0, found.4.1, subst (λ (l : List ℕ). AreMany spells found.4.0 l found.4.1) same.1 found.4.2);
  }

  pub gone-all : (items : List T) (count : ℕ) (rest : List ℕ) → Gone spells content items count rest → rest ≡ [] → AreMany spells items content count
  gone-all items count rest gone e =
      let all = gone.forward [] 0 (e, refl) in
      let sums : count + 0 ≡ count = omega arith in
      subst (λ (n : ℕ). AreMany spells items content n) sums (subst (λ (l : List T). AreMany spells l content (count + 0)) (append-nil items) all)

  pub gone-refused : (items : List T) (count : ℕ) (rest : List ℕ) → Gone spells content items count rest → (rest ≡ [] → ⊥)
      → (fault : X509Fault) → IsRefusal (λ v n. (behind : List ℕ) × Leads spells v rest behind n) fault → IsRefusal (λ vs n. AreMany spells vs content n) fault
  gone-refused items count rest gone some fault refused =
      refused_by (λ v n. (behind : List ℕ) × Leads spells v rest behind n) (λ vs n. AreMany spells vs content n) fault refused (λ ws n s.
      let tail = gone.backward ws n s in
      let found = next tail.0 rest tail.1 some tail.2 in
      (found.0, found.1, (found.2, found.3)))

  -- an element takes an octet at least
  pub shorter : (v : T) (rest behind : List ℕ) (n : ℕ) → Leads spells v rest behind n → length behind < length rest
  shorter v rest behind n s =
      let l = laws.element_of v s.0 n s.1 in
      omega (arith, ap length s.3, length-append s.0 behind, ap length l.3, length-element l.0 l.1)

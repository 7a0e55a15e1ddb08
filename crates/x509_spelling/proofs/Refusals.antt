-- Bytes have no other spelling than the one that was looked for.
use Rattle.std.proofs.Common.{◌≡◌, ℕ, ◌∷◌, length, arith, Bool, true, false, Option, None, Some, append-nil, List, [], ◌++◌, Result, Ok, Err, refl, sym, ap, ◌∙◌, subst, inl, inr}
use Rattle.std.specs.Prelude.{◌==◌}
use Rattle.std.proofs.lemmas.Bool.{eqb-true}
use Rattle.asn1_der.specs.Seen.{Seen}
use Rattle.asn1_der.specs.Tree.{Tree, Writes}
use Rattle.asn1_der.specs.Length.{element}
use Rattle.asn1_der.specs.Firsts.{Firsts}
use Rattle.asn1_der.proofs.Elements.{element-one, element-content, element-split}
use Rattle.asn1_codec.specs.Reads.{ReadsWhole}
use Rattle.asn1_codec.proofs.ReadsLemmas.{gives-none}
use Rattle.asn1_der.specs.declared.error.Asn1DerError.{Asn1DerError}
use Rattle.asn1_der.specs.declared.error.Asn1DerError.TheVariants as der_fault
use Rattle.picky_asn1_der.specs.Splits.{IsNoSplit}
use Rattle.picky_asn1_der.specs.Raw.{has_low_number}
use Rattle.x509_spelling.specs.declared.fault.X509Fault.{X509Fault}
use Rattle.x509_spelling.specs.Answers.{IsRefusal, Tells, fault_of}
use Rattle.x509_spelling.specs.declared.counted.Counted.{Counted}
use Rattle.x509_spelling.specs.Spellings.{has_low_tag, IsExact, Leads, begins, LeadsOptional, LeadsDefault, LeadsImplied, Joins, Holds}
use Rattle.x509_spelling.specs.Deviations.{Deviation}
use Rattle.x509_spelling.specs.Laws.{SpellingLaws}

pub refused_by : {A B : Type 0} (P : A → ℕ → Type 0) (Q : B → ℕ → Type 0) (fault : X509Fault) → IsRefusal P fault
    → ((b : B) (n : ℕ) → Q b n → (a : A) × (m : ℕ) × P a m) → IsRefusal Q fault
refused_by P Q fault (inl memory) also = inl memory
refused_by P Q fault (inr none) also = inr (λ b n q. let found = also b n q in none found.0 found.1 found.2)

module _ {T : Type 0} (seen : Seen T) (tree : T → Tree) (bytes : List ℕ) where
  pub exact_refused : (fault : Asn1DerError) → ReadsWhole seen (Writes tree) bytes (Err fault) → IsRefusal (λ v n. IsExact tree v bytes n) (fault_of fault)
  exact_refused fault (inl memory) = let same_fault : fault ≡ der_fault.Memory = cc (memory) in inl (ap fault_of same_fault)
  exact_refused fault (inr reads) = inr (λ v n s. gives-none seen fault v ((reads v).1 s.0))

  pub exact_told : (value : T) → ReadsWhole seen (Writes tree) bytes (Ok value) → IsExact tree value bytes 0
  exact_told value (inl memory) = absurd (cc (memory))
  exact_told value (inr reads) = ((reads value).0 refl, refl)

-- what is distinguished by a tree is distinguished by the same tree
pub exact_as : {T : Type 0} (tree other : T → Tree) → tree ≡ other → (bytes : List ℕ) (r : Result (Counted T) X509Fault)
    → Tells (λ v n. IsExact tree v bytes n) r → Tells (λ v n. IsExact other v bytes n) r
exact_as {T} tree other same bytes r told = subst (λ (t : T → Tree). Tells (λ v n. IsExact t v bytes n) r) same told

module _ {T : Type 0} (is_low : Bool) (firsts : Firsts) (tree : T → Tree) (spells : T → List ℕ → ℕ → Type 0) (laws : SpellingLaws is_low firsts tree spells) (bytes : List ℕ) where
  -- where no element begins the bytes, no spelling does
  pub no_front : IsNoSplit bytes → (v : T) (n : ℕ) → (rest : List ℕ) × Leads spells v bytes rest n → ⊥
  no_front none v n s =
      let l = laws.element_of v s.1.0 n s.1.1 in
      let low = subst (λ (f : List ℕ). has_low_tag f ≡ true) (l.3 ∙ element-split l.0 l.1) s.1.2 in
      none (record { first = l.0; content = l.1 }) s.0 (low, s.1.3 ∙ ap (λ (f : List ℕ). f ++ s.0) l.3)

  -- the element that begins the bytes is the only one that can be a spelling
  pub front_refused : (whole rest : List ℕ) (first : ℕ) (content : List ℕ) → whole ≡ element first content → bytes ≡ element first content ++ rest
      → (fault : X509Fault) → IsRefusal (λ v n. spells v whole n) fault → IsRefusal (λ v n. (r : List ℕ) × Leads spells v bytes r n) fault
  front_refused whole rest first content is split fault refused =
      refused_by (λ v n. spells v whole n) (λ v n. (r : List ℕ) × Leads spells v bytes r n) fault refused (λ v n s.
      let l = laws.element_of v s.1.0 n s.1.1 in
      let text : element l.0 l.1 ++ s.0 ≡ element first content ++ rest = ap (λ (f : List ℕ). f ++ s.0) (sym l.3) ∙ sym s.1.3 ∙ split in
      let parts = element-one l.0 first l.1 content s.0 rest text in
      (v, n, subst (λ (f : List ℕ). spells v f n) (l.3 ∙ (λ i. element (parts.0 i) (parts.1 i)) ∙ sym is) s.1.1))

module _ {A B : Type 0} (leads : A → List ℕ → List ℕ → ℕ → Type 0) (spells : B → List ℕ → ℕ → Type 0) (bytes : List ℕ) where
  pub head_refused : (fault : X509Fault) → IsRefusal (λ a n. (rest : List ℕ) × leads a bytes rest n) fault
      → IsRefusal (λ (f : A × B) n. Joins leads spells f.0 f.1 bytes n) fault
  head_refused fault refused =
      refused_by (λ a n. (rest : List ℕ) × leads a bytes rest n) (λ (f : A × B) n. Joins leads spells f.0 f.1 bytes n) fault refused
      (λ f n s. (f.0, s.1, (s.0, s.3)))

  pub tail_refused : ((v w : A) (b x y : List ℕ) (m n : ℕ) → leads v b x m → leads w b y n → (v ≡ w) × (x ≡ y) × (m ≡ n))
      → (a : A) (rest : List ℕ) (m : ℕ) → leads a bytes rest m → (fault : X509Fault) → IsRefusal (λ b n. spells b rest n) fault
      → IsRefusal (λ (f : A × B) n. Joins leads spells f.0 f.1 bytes n) fault
  tail_refused one a rest m read fault refused =
      refused_by (λ b n. spells b rest n) (λ (f : A × B) n. Joins leads spells f.0 f.1 bytes n) fault refused (λ f n s.
      let same = one f.0 a bytes s.0 rest s.1 m s.3 read in
      (f.1, s.2, subst (λ (l : List ℕ). spells f.1 l s.2) same.1 s.4))

-- the element that was split off begins the bytes as a spelling
pub front_told : {T : Type 0} (spells : T → List ℕ → ℕ → Type 0) (bytes whole rest : List ℕ) (first : ℕ) (content : List ℕ) → whole ≡ element first content
    → has_low_number first ≡ true → bytes ≡ element first content ++ rest → (value : T) (n : ℕ) → spells value whole n → Leads spells value bytes rest n
front_told spells bytes whole rest first content is low split value n s =
    (whole, s, subst (λ (f : List ℕ). has_low_tag f ≡ true) (sym (is ∙ element-split first content)) low, split ∙ ap (λ (f : List ℕ). f ++ rest) (sym is))

-- bytes that no element begins are none
pub no_element : (bytes : List ℕ) (first : ℕ) → has_low_number first ≡ true → IsNoSplit bytes → (content : List ℕ) → bytes ≡ element first content → ⊥
no_element bytes first low none content e = none (record { first = first; content = content }) [] (low, e ∙ sym (append-nil (element first content)))

-- the element that begins the bytes is the one that they are
pub same_element : (bytes : List ℕ) (s first : ℕ) (a content rest : List ℕ) → bytes ≡ element s a ++ rest → bytes ≡ element first content
    → (s ≡ first) × (a ≡ content) × (rest ≡ [])
same_element bytes s first a content rest split e =
    element-one s first a content rest [] (sym split ∙ e ∙ sym (append-nil (element first content)))

-- what the content tells, the element tells
pub holds_told : {T : Type 0} (spells : T → List ℕ → ℕ → Type 0) (first : ℕ) (bytes content : List ℕ) → bytes ≡ element first content
    → (r : Result (Counted T) X509Fault) → Tells (λ f n. spells f content n) r → Tells (λ f n. Holds first spells f bytes n) r
holds_told spells first bytes content is (Ok told) s = (content, s, is)
holds_told spells first bytes content is (Err fault) refused =
    refused_by (λ f n. spells f content n) (λ f n. Holds first spells f bytes n) fault refused
    (λ f n s. (f, n, subst (λ (l : List ℕ). spells f l n) (element-content first s.0 content (sym s.2 ∙ is)) s.1))

isnt_both : (b : Bool) → b ≡ true → b ≡ false → ⊥
isnt_both b is isnt = cc

-- A field that may be missing, and isn't.
module _ {T : Type 0} (firsts : Firsts) (spells : T → List ℕ → ℕ → Type 0) (bytes : List ℕ) (there : begins firsts bytes ≡ true) where
  optional_there : (o : Option T) (n : ℕ) (rest : List ℕ) → LeadsOptional firsts spells o bytes rest n → (v : T) × (m : ℕ) × ((r : List ℕ) × Leads spells v bytes r m)
  optional_there None n rest s = absurd (isnt_both (begins firsts bytes) there s.0)
  optional_there (Some v) n rest s = (v, n, (rest, s))

  pub optional_refused : {A : Type 0} (held : A → Option T) (fault : X509Fault) → IsRefusal (λ v n. (rest : List ℕ) × Leads spells v bytes rest n) fault
      → IsRefusal (λ a n. (rest : List ℕ) × LeadsOptional firsts spells (held a) bytes rest n) fault
  optional_refused held fault refused =
      refused_by (λ v n. (rest : List ℕ) × Leads spells v bytes rest n) (λ a n. (rest : List ℕ) × LeadsOptional firsts spells (held a) bytes rest n) fault refused
      (λ a n s. optional_there (held a) n s.0 s.1)

  implied_there : (tree : T → Tree) (is_default : T → Bool) (deviation : Deviation) (v : T) (n : ℕ) (rest : List ℕ)
      → LeadsImplied firsts tree spells is_default deviation v bytes rest n → (w : T) × (m : ℕ) × ((r : List ℕ) × Leads spells w bytes r m)
  implied_there tree is_default deviation v n rest (inl s) = absurd (isnt_both (begins firsts bytes) there s.2)
  implied_there tree is_default deviation v n rest (inr s) = (v, n, (rest, s))

  pub implied_refused : {A : Type 0} (tree : T → Tree) (is_default : T → Bool) (deviation : Deviation) (held : A → T) (fault : X509Fault)
      → IsRefusal (λ v n. (rest : List ℕ) × Leads spells v bytes rest n) fault
      → IsRefusal (λ a n. (rest : List ℕ) × LeadsImplied firsts tree spells is_default deviation (held a) bytes rest n) fault
  implied_refused tree is_default deviation held fault refused =
      refused_by (λ v n. (rest : List ℕ) × Leads spells v bytes rest n) (λ a n. (rest : List ℕ) × LeadsImplied firsts tree spells is_default deviation (held a) bytes rest n) fault
      refused (λ a n s. implied_there tree is_default deviation (held a) n s.0 s.1)

  default_there : (is_default : T → Bool) (deviation : Deviation) (v : T) (n : ℕ) (rest : List ℕ) → LeadsDefault firsts spells is_default deviation v bytes rest n
      → (w : T) × (m : ℕ) × ((r : List ℕ) × Leads spells w bytes r m)
  default_there is_default deviation v n rest (inl s) = absurd (isnt_both (begins firsts bytes) there s.1)
  default_there is_default deviation v n rest (inr s) = (v, s.0, (rest, s.1))

  pub default_refused : {A : Type 0} (is_default : T → Bool) (deviation : Deviation) (held : A → T) (fault : X509Fault)
      → IsRefusal (λ v n. (rest : List ℕ) × Leads spells v bytes rest n) fault
      → IsRefusal (λ a n. (rest : List ℕ) × LeadsDefault firsts spells is_default deviation (held a) bytes rest n) fault
  default_refused is_default deviation held fault refused =
      refused_by (λ v n. (rest : List ℕ) × Leads spells v bytes rest n) (λ a n. (rest : List ℕ) × LeadsDefault firsts spells is_default deviation (held a) bytes rest n) fault refused
      (λ a n s. default_there is_default deviation (held a) n s.0 s.1)

-- whether anything is left
pub some_left : (rest : List ℕ) → false ≡ (length rest == 0) → rest ≡ [] → ⊥
some_left [] some e = absurd (cc (some))
some_left (octet ∷ rest) some e = absurd (omega (arith, ap length e))

pub none_left : (rest : List ℕ) → true ≡ (length rest == 0) → rest ≡ []
none_left [] none = refl
none_left (octet ∷ rest) none = absurd (omega (arith, eqb-true (length (octet ∷ rest)) 0 (sym none)))

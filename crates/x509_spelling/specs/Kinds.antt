-- Fields of which an object identifier in front of them decides the kind.
use Rattle.std.specs.Prelude.{◌≡◌, ℕ, ◌+◌, Bool, not, ◌&&◌, List, Option}
use Rattle.asn1_der.specs.Tree.{Trees}
use Rattle.x509_spelling.specs.declared.kinds.KindOf.{KindOf}
use Rattle.x509_spelling.specs.declared.kinds.KindOf.TheVariants.{This, Other}

-- the identifier denotes the first kind, or else one of the others
abbrev pub case_belongs : {A B : Type 0} → (List ℕ → Bool) → (List ℕ → B → Bool) → List ℕ → KindOf A B → Bool
case_belongs is_told others arcs (This fields) = is_told arcs
case_belongs is_told others arcs (Other fields) = not (is_told arcs) && others arcs fields

abbrev pub case_trees : {A B : Type 0} → (A → Trees) → (B → Trees) → KindOf A B → Trees
case_trees trees others (This fields) = trees fields
case_trees trees others (Other fields) = others fields

abbrev pub CaseSpells : {A B : Type 0} → (A → List ℕ → ℕ → Type 0) → (B → List ℕ → ℕ → Type 0) → KindOf A B → List ℕ → ℕ → Type 0
CaseSpells spells others (This fields) bytes n = spells fields bytes n
CaseSpells spells others (Other fields) bytes n = others fields bytes n

abbrev pub case_refusal : {A B C : Type 0} → (A → Option C) → (B → Option C) → KindOf A B → Option C
case_refusal refusal others (This fields) = refusal fields
case_refusal refusal others (Other fields) = others fields

-- the bytes are a spelling of what makes the value, in which there may be deviations of its own
abbrev pub MadeOf : {R T : Type 0} → (R → List ℕ → ℕ → Type 0) → (R → T) → (R → ℕ) → T → List ℕ → ℕ → Type 0
MadeOf {R} spells value_of own_count value bytes n = (read : R) × (m : ℕ) × spells read bytes m × (value_of read ≡ value) × (n ≡ m + own_count read)

-- Which bytes are a spelling of a value, and how many deviations are in them: a relation of a value, bytes and a count.
use Rattle.std.specs.Prelude.{◌≡◌, ℕ, ◌+◌, ◌⊎◌, Bool, true, false, List, [], ◌∷◌, ◌++◌, Option, None, Some, IsTrue}
use Rattle.asn1_der.specs.Tree.{Tree, IsWhole, Writes}
use Rattle.asn1_der.specs.Length.{element}
use Rattle.asn1_der.specs.Firsts.{Firsts, may_begin}
use Rattle.picky_asn1_der.specs.Raw.{has_low_number}
use Rattle.x509_spelling.specs.Deviations.{Deviation, counted}

-- the value's one DER spelling, in which nothing deviates
abbrev pub IsExact : {T : Type 0} → (T → Tree) → T → List ℕ → ℕ → Type 0
IsExact tree value bytes n = Writes tree value bytes × (n ≡ 0)

-- the tag is in the first octet alone: its number is below 31 (X.690, section 8.1.2.2)
abbrev pub has_low_tag : List ℕ → Bool
has_low_tag [] = false
has_low_tag (octet ∷ octets) = has_low_number octet

-- a spelling of the value begins the bytes, and `rest` follows it
abbrev pub Leads : {T : Type 0} → (T → List ℕ → ℕ → Type 0) → T → List ℕ → List ℕ → ℕ → Type 0
Leads spells value bytes rest n = (front : List ℕ) × spells value front n × (has_low_tag front ≡ true) × (bytes ≡ front ++ rest)

-- the next octet is one of these
abbrev pub begins : Firsts → List ℕ → Bool
begins firsts [] = false
begins firsts (octet ∷ octets) = may_begin firsts octet

-- an optional field is missing where the next octet begins none
abbrev pub LeadsOptional : {T : Type 0} → Firsts → (T → List ℕ → ℕ → Type 0) → Option T → List ℕ → List ℕ → ℕ → Type 0
LeadsOptional firsts spells None bytes rest n = (begins firsts bytes ≡ false) × (rest ≡ bytes) × (n ≡ 0)
LeadsOptional firsts spells (Some value) bytes rest n = Leads spells value bytes rest n

-- a field with a DEFAULT: the default is left out, and deviates where it is spelled out (X.690, section 11.5)
abbrev pub LeadsDefault : {T : Type 0} → Firsts → (T → List ℕ → ℕ → Type 0) → (T → Bool) → Deviation → T → List ℕ → List ℕ → ℕ → Type 0
LeadsDefault firsts spells is_default deviation value bytes rest n =
    (IsTrue (is_default value) × (begins firsts bytes ≡ false) × (rest ≡ bytes) × (n ≡ 0))
    ⊎ ((m : ℕ) × Leads spells value bytes rest m × (n ≡ m + counted deviation (is_default value)))

-- a field that is always written strictly: where it is missing it has its default, and `deviation` is there
abbrev pub LeadsImplied : {T : Type 0} → Firsts → (T → Tree) → (T → List ℕ → ℕ → Type 0) → (T → Bool) → Deviation → T → List ℕ → List ℕ → ℕ → Type 0
LeadsImplied firsts tree spells is_default deviation value bytes rest n =
    (IsTrue (is_default value) × IsWhole (tree value) × (begins firsts bytes ≡ false) × (rest ≡ bytes) × (n ≡ 1))
    ⊎ Leads spells value bytes rest n

-- no field
abbrev pub IsEnd : List ℕ → ℕ → Type 0
IsEnd bytes n = (bytes ≡ []) × (n ≡ 0)

-- a field and those behind it: their counts are summed
abbrev pub Joins : {A B : Type 0} → (A → List ℕ → List ℕ → ℕ → Type 0) → (B → List ℕ → ℕ → Type 0) → A → B → List ℕ → ℕ → Type 0
Joins leads others field fields bytes n =
    (rest : List ℕ) × (m : ℕ) × (k : ℕ) × leads field bytes rest m × others fields rest k × (n ≡ m + k)

-- the elements of a list, one after another
abbrev pub AreMany : {T : Type 0} → (T → List ℕ → ℕ → Type 0) → List T → List ℕ → ℕ → Type 0
AreMany spells [] bytes n = IsEnd bytes n
AreMany spells (value ∷ values) bytes n =
    (rest : List ℕ) × (m : ℕ) × (k : ℕ) × Leads spells value bytes rest m × AreMany spells values rest k × (n ≡ m + k)

-- one element with this identifier octet, in whose content the parts are spelled
abbrev pub Holds : {T : Type 0} → ℕ → (T → List ℕ → ℕ → Type 0) → T → List ℕ → ℕ → Type 0
Holds first spells value bytes n = (content : List ℕ) × spells value content n × (bytes ≡ element first content)

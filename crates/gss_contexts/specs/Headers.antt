-- The header of a message that a service forwards (draft-ietf-kitten-iakerb-03, section 3). Its elements begin the content of
-- a SEQUENCE. What follows them there is ignored.
use Rattle.std.specs.Prelude.{◌≡◌, ℕ, List, Option}
use Rattle.asn1_der.specs.Tree.{Tree, Writes}
use Rattle.asn1_der.specs.Firsts.{Firsts}
use Rattle.asn1_der.specs.Length.{element}
use Rattle.gss_contexts.specs.Fronts.{Leads, LeadsOptional}
use Rattle.asn1_der.specs.Octets.{sequence_octet}

-- a field, two that may be missing, and what is ignored
abbrev pub LeadFields : {A B C : Type 0} → (A → Tree) → Firsts → (B → Tree) → Firsts → (C → Tree) → A → Option B → Option C → List ℕ → Type 0
LeadFields first_tree second_firsts second_tree third_firsts third_tree a b c content =
    (behind later ignored : List ℕ) × Leads (Writes first_tree) a content behind
    × LeadsOptional second_firsts (Writes second_tree) b behind later × LeadsOptional third_firsts (Writes third_tree) c later ignored

-- the bytes are a SEQUENCE with these fields of a header at its front
abbrev pub IsHeaderOf : {H A B C : Type 0} → (A → Tree) → Firsts → (B → Tree) → Firsts → (C → Tree) → (H → A) → (H → Option B) → (H → Option C)
    → H → List ℕ → Type 0
IsHeaderOf ta fb tb fc tc a_of b_of c_of v bytes =
    (content : List ℕ) × (bytes ≡ element sequence_octet content) × LeadFields ta fb tb fc tc (a_of v) (b_of v) (c_of v) content

-- A content is read as one header.
use Rattle.std.proofs.Common.{◌≡◌, ℕ, List, ◌++◌, Option, None, Some, sym, ap, subst, ◌∙◌}
use Rattle.asn1_der.specs.Tree.{Tree, Writes}
use Rattle.asn1_der.specs.Firsts.{Firsts}
use Rattle.asn1_der.specs.Length.{element}
use Rattle.asn1_der.specs.Seen.{Seen, as_is, Alike, seen_option}
use Rattle.asn1_der.proofs.Alike.{alike-none, alike-some}
use Rattle.asn1_der.proofs.Spelling.{IsInjective, IsInjectiveAs, one_spelling_as}
use Rattle.asn1_der.proofs.Elements.{element-one}
use Rattle.gss_contexts.specs.Fronts.{Leads, LeadsOptional}
use Rattle.asn1_codec.specs.Reads.{IsOneValue}
use Rattle.gss_contexts.specs.Headers.{LeadFields, IsHeaderOf}
use Rattle.asn1_der.specs.Octets.{sequence_octet}

-- bytes are led by one value, with one rest
pub leads-one : {T : Type 0} (seen : Seen T) (tree : T → Tree) → IsInjectiveAs (Alike seen) tree → (v w : T) (bytes x y : List ℕ)
    → Leads (Writes tree) v bytes x → Leads (Writes tree) w bytes y → Alike seen v w × (x ≡ y)
leads-one seen tree injective v w bytes x y (a, a_read, a_is) (b, b_read, b_is) =
    let same = one_spelling_as (Alike seen) tree injective v w a b x y a_read b_read (sym a_is ∙ b_is) in (same.0, same.2)

pub leads_optional-one : {T : Type 0} (firsts : Firsts) (seen : Seen T) (tree : T → Tree) → IsInjectiveAs (Alike seen) tree → (v w : Option T) (bytes x y : List ℕ)
    → LeadsOptional firsts (Writes tree) v bytes x → LeadsOptional firsts (Writes tree) w bytes y → Alike (seen_option seen) v w × (x ≡ y)
leads_optional-one firsts seen tree injective None None bytes x y (none, is) (also, same) = (alike-none seen, is ∙ sym same)
leads_optional-one firsts seen tree injective None (Some w) bytes x y (none, is) (there, leads) = absurd (cc (none, there))
leads_optional-one firsts seen tree injective (Some v) None bytes x y (there, leads) (none, is) = absurd (cc (none, there))
leads_optional-one firsts seen tree injective (Some v) (Some w) bytes x y (there, leads) (also, other) =
    let same = leads-one seen tree injective v w bytes x y leads other in (alike-some seen v w same.0, same.1)

pub fields-one : {A B C : Type 0} (ta : A → Tree) → IsInjective ta → (fb : Firsts) (tb : B → Tree) → IsInjective tb → (fc : Firsts) (tc : C → Tree) → IsInjective tc
    → (a d : A) (b e : Option B) (c f : Option C) (content : List ℕ) → LeadFields ta fb tb fc tc a b c content → LeadFields ta fb tb fc tc d e f content
    → (a ≡ d) × (b ≡ e) × (c ≡ f)
fields-one ta ja fb tb jb fc tc jc a d b e c f content (x, y, z, first, second, third) (k, l, m, one, two, three) =
    let p = leads-one as_is ta ja a d content x k first one in
    let two_here = subst (λ (r : List ℕ). LeadsOptional fb (Writes tb) e r l) (sym p.1) two in
    let q = leads_optional-one fb as_is tb jb b e x y l second two_here in
    let three_here = subst (λ (r : List ℕ). LeadsOptional fc (Writes tc) f r m) (sym q.1) three in
    let r = leads_optional-one fc as_is tc jc c f y z m third three_here in
    (p.0, q.0, r.0)

-- the bytes of a header are read as one
pub header-one : {H A B C : Type 0} (ta : A → Tree) → IsInjective ta → (fb : Firsts) (tb : B → Tree) → IsInjective tb → (fc : Firsts) (tc : C → Tree) → IsInjective tc
    → (a_of : H → A) (b_of : H → Option B) (c_of : H → Option C) → ((v w : H) → a_of v ≡ a_of w → b_of v ≡ b_of w → c_of v ≡ c_of w → v ≡ w)
    → IsOneValue as_is (IsHeaderOf ta fb tb fc tc a_of b_of c_of)
header-one ta ja fb tb jb fc tc jc a_of b_of c_of join v w a b x y (k, a_is, first) (l, b_is, other) e =
    let texts : element sequence_octet k ++ x ≡ element sequence_octet l ++ y = sym (ap (λ (t : List ℕ). t ++ x) a_is) ∙ e ∙ ap (λ (t : List ℕ). t ++ y) b_is in
    let same : k ≡ l = (element-one 48 48 k l x y texts).1 in
    let there = subst (λ (c : List ℕ). LeadFields ta fb tb fc tc (a_of w) (b_of w) (c_of w) c) (sym same) other in
    let parts = fields-one ta ja fb tb jb fc tc jc (a_of v) (a_of w) (b_of v) (b_of w) (c_of v) (c_of w) k first there in
    (join v w parts.0 parts.1 parts.2, a_is ∙ ap (element sequence_octet) same ∙ sym b_is)

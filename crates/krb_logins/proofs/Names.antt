-- Names of realms and of principals, as the tables compare them and as messages hold them.
use Rattle.std.proofs.Common.{◌≡◌, Bool, true, ◌&&◌, List, [], ◌∷◌, length, refl, subst}
use Rattle.std.proofs.lemmas.Bool.{and_from, and_parts}
use Rattle.std.proofs.lemmas.Cmp.{lists_equiv, nat_list_eq_equiv}
use Rattle.std.specs.Cmp.Lexicographic.{bytes_decides, pointwise_decides}
use Rattle.std.specs.List.{list_all}
use Rattle.std.specs.Prelude.{codes, nat_le}
use Rattle.asn1_leaves.specs.CharSets.{is_general_string}
use Rattle.picky_asn1.specs.Bytes.{Bytes}
use Rattle.krb_messages.specs.Names.{is_same_name, is_same_realm}
use Rattle.krb_realm_accounts.specs.Names.{AreComponents, IsRealmName, is_realm_name}
use Rattle.krb_messages.specs.TicketGranting.{krbtgt_of}

-- a name is the same as itself
pub own_realm : (name : Bytes) → is_same_realm name name ≡ true
own_realm name = nat_list_eq_equiv.refl name

pub own_name : (name : List Bytes) → is_same_name name name ≡ true
own_name name = (lists_equiv nat_list_eq_equiv).refl name

-- and as one that equals it
pub same_realm : (name other : Bytes) → name ≡ other → is_same_realm name other ≡ true
same_realm name other e = subst (λ n. is_same_realm name n ≡ true) e (own_realm name)

pub same_name : (name other : List Bytes) → name ≡ other → is_same_name name other ≡ true
same_name name other e = subst (λ n. is_same_name name n ≡ true) e (own_name name)

-- what is the same is equal
pub equal_realms : (name other : Bytes) → is_same_realm name other ≡ true → name ≡ other
equal_realms name other same = (bytes_decides name other).0 same

pub equal_names : (name other : List Bytes) → is_same_name name other ≡ true → name ≡ other
equal_names name other same = (pointwise_decides bytes_decides name other).0 same

-- each component can be written
abbrev pub are_texts : List Bytes → Bool
are_texts = list_all is_general_string

pub realm_text : (name : Bytes) → IsRealmName name → is_general_string name ≡ true
realm_text name is = (and_parts (nat_le 1 (length name) && nat_le (length name) 255) (is_general_string name) is).1

each_text : (names : List Bytes) → list_all is_realm_name names ≡ true → are_texts names ≡ true
each_text [] all = refl
each_text (name ∷ names) all =
    let parts = and_parts (is_realm_name name) (list_all is_realm_name names) all in
    and_from (is_general_string name) (are_texts names) (realm_text name parts.0) (each_text names parts.1)

pub component_texts : (names : List Bytes) → AreComponents names → are_texts names ≡ true
component_texts names are = each_text names (and_parts (nat_le 1 (length names) && nat_le (length names) 16) (list_all is_realm_name names) are).1

-- those of the ticket-granting service's name too
pub granting_texts : (realm : Bytes) → IsRealmName realm → are_texts (krbtgt_of realm) ≡ true
granting_texts realm is = and_from (is_general_string (codes "krbtgt")) (are_texts (realm ∷ [])) refl (and_from (is_general_string realm) true (realm_text realm is) refl)

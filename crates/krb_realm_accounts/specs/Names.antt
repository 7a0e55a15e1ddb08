-- The names of realms and principals (RFC 4120, sections 5.2.1, 5.2.2, 6.1, 6.2): the rules of this realm.
use Rattle.std.specs.Prelude.{◌≡◌, ℕ, nat_lt, nat_le, Bool, true, false, ◌&&◌, IsTrue, List, [], ◌∷◌, ◌++◌, map, length, Vec, codes, refl}
use Rattle.std.specs.List.{list_all}
use Rattle.std.specs.Global.{Global}
use Rattle.picky_asn1.specs.Bytes.{Bytes}

-- A realm's name has 1 to 255 characters, each below 128. Test: `realm is empty`, `realm has 256 characters`, `realm has a
-- character that is not ASCII at 3` of `files.txt`.
abbrev pub is_realm_name : Bytes → Bool
is_realm_name name = nat_le 1 (length name) && nat_le (length name) 255 && list_all (λ character. nat_lt character 128) name

-- The octets are the name of a realm, or a component of a name.
abbrev pub IsRealmName : Bytes → Type 0
IsRealmName name = IsTrue (is_realm_name name)

-- A name has 1 to 16 components, and each is as a realm's name. Test: `component 2 of name is empty`, `name has 0 components`, `name has 17
-- components`.
abbrev pub are_components : List Bytes → Bool
are_components name = nat_le 1 (length name) && nat_le (length name) 16 && list_all is_realm_name name

-- The components are a principal's name.
abbrev pub AreComponents : List Bytes → Type 0
AreComponents name = IsTrue (are_components name)

-- the characters of each component
abbrev pub parts : List (Vec ℕ Global) → List Bytes
parts name = map (λ component. component.items) name

no_empty_name : is_realm_name [] ≡ false
no_empty_name = refl

no_umlaut : is_realm_name (codes "K" ++ 252 ∷ codes "ln") ≡ false
no_umlaut = refl

two_components : are_components (codes "krbtgt" ∷ codes "R" ∷ []) ≡ true
two_components = refl

no_empty_component : are_components (codes "krbtgt" ∷ [] ∷ []) ≡ false
no_empty_component = refl

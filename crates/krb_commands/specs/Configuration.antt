-- The configuration of Kerberos programs (MIT's krb5.conf): lines, of which a header, as `[libdefaults]`, begins a section, and others are
-- relations, as `default_realm = EXAMPLE.COM`.
use Rattle.std.specs.Prelude.{◌==◌, ◌||◌, not, nat_eq, ℕ, Bool, false, List, [], ◌∷◌, Option, None, Some, codes, length, if◌then◌else◌}
use Rattle.std.specs.Cmp.Lexicographic.{pointwise}
use Rattle.std.specs.List.{after_first, before_first}
use Rattle.std.specs.Str.{trim}
use Rattle.std.specs.Str.Lines.{lines}

abbrev pub Text : Type 0
Text = List ℕ

-- The first octet, if there is one, is this.
abbrev pub begins_with : ℕ → Text → Bool
begins_with octet [] = false
begins_with octet (first ∷ rest) = first == octet

-- A header begins with `[` (91), behind blanks.
abbrev pub is_header : Text → Bool
is_header line = begins_with 91 (trim line)

-- The section of the library's defaults.
abbrev pub is_library : Text → Bool
is_library line = pointwise nat_eq (trim line) (codes "[libdefaults]")

-- The realm of a relation with this name and this value: the value without blanks around it, unless it is empty.
abbrev pub realm_in : Text → Text → Option Text
realm_in name value =
    if (length (trim value) == 0) || not (pointwise nat_eq (trim name) (codes "default_realm")) then None else Some (trim value)

-- The realm that a line names: its name is in front of the first `=` (61), and its value after it.
abbrev pub realm_of : Text → Option Text
realm_of line = realm_in (before_first (λ octet. octet == 61) line) (after_first (λ octet. octet == 61) line)

-- The first one, or else the second.
abbrev pub first_some : Option Text → Option Text → Option Text
first_some (Some realm) other = Some realm
first_some None other = other

-- The first realm that a line of that section names. `inside`: the lines begin in that section.
abbrev pub realm_below : Bool → List Text → Option Text
realm_below inside [] = None
realm_below inside (line ∷ rest) =
    if is_header line then realm_below (is_library line) rest
    else first_some (if inside then realm_of line else None) (realm_below inside rest)

-- The default realm of a configuration.
abbrev pub default_realm_in : Text → Option Text
default_realm_in text = realm_below false (lines text)

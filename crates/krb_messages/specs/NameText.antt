-- The text of names of principals (RFC 1964, section 2.1.3): components with `/` between them, then `@` and the realm.
use Rattle.std.specs.Prelude.{◌≡◌, ℕ, ◌||◌, ◌==◌, if◌then◌else◌, List, [], ◌∷◌, ◌++◌, codes, Option, Some, None, refl}
use Rattle.std.specs.List.{flat_map}
use Rattle.std.specs.Char.{encode_utf8}

-- the letter that follows a backslash in a character's place: `0`, `b`, `t` and `n` for NUL, backspace, tab and newline, and
-- the character itself for `/`, `@` and the backslash
abbrev pub escape_letter : ℕ → Option ℕ
escape_letter character =
    if character == 0 then Some 48
    else (if character == 8 then Some 98
    else (if character == 9 then Some 116
    else (if character == 10 then Some 110
    else (if (character == 47) || (character == 64) || (character == 92) then Some character else None))))

abbrev pub escaped_by : ℕ → Option ℕ → List ℕ
escaped_by character (Some letter) = 92 ∷ encode_utf8 letter
escaped_by character None = encode_utf8 character

-- a character of a component or of a realm
abbrev pub escaped : ℕ → List ℕ
escaped character = escaped_by character (escape_letter character)

-- a component, or a realm
abbrev pub component_text : List ℕ → List ℕ
component_text = flat_map escaped

-- the components of a name
abbrev pub name_text : List (List ℕ) → List ℕ
name_text [] = []
name_text (component ∷ components) =
    component_text component ++ flat_map (λ further. 47 ∷ component_text further) components

-- A name in its realm is printed as `host/server@REALM`. In a component and in the realm, a backslash precedes `/`, `@` and a backslash.
-- NUL, backspace, tab and newline are `\0`, `\b`, `\t` and `\n` there (RFC 1964, section 2.1.3). Test: `names` of `texts.rt`.
abbrev pub principal_text : List (List ℕ) → List ℕ → List ℕ
principal_text components realm = name_text components ++ 64 ∷ component_text realm

pub principal_text-host : principal_text (codes "host" ∷ codes "www.example.com" ∷ []) (codes "EXAMPLE.COM") ≡ codes "host/www.example.com@EXAMPLE.COM"
unfolding encode_utf8
principal_text-host = refl

pub name_text-marks : name_text (codes "a/b@c\\" ∷ []) ≡ codes "a\\/b\\@c\\\\"
unfolding encode_utf8
name_text-marks = refl

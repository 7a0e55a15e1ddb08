-- The entries of a keytab at which MIT's library stops, as at the end of the file (1.20.1).
use Rattle.std.specs.Prelude.{ℕ, ◌&&◌, not, nat_lt, Bool, if◌then◌else◌, List, length, Option, None, Some}
use Rattle.std.specs.List.{list_all}
use Rattle.krb_keytab.specs.declared.mit.Part.{Part}
use Rattle.krb_keytab.specs.declared.mit.Part.TheVariants.{Components, Realm, Component, Key}

-- The library reads a count as a number of 16 bits with a sign, and stops at 0 and below.
abbrev pub is_read : ℕ → Bool
is_read count = nat_lt 0 count && nat_lt count 32768

-- The first part of an entry at which it stops: the count of components, the realm, a component or the key.
abbrev pub stop_of : List ℕ → List (List ℕ) → List ℕ → Option Part
stop_of realm components key =
    if not (is_read (length components)) then Some Components
    else (if not (is_read (length realm)) then Some Realm
    else (if not (list_all (λ component. is_read (length component)) components) then Some Component
    else (if not (is_read (length key)) then Some Key else None)))

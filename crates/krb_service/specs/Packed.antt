-- A client's realm and name in one block of texts.
use Rattle.std.specs.Prelude.{◌≡◌, List, [], ◌∷◌, drop, get_or}
use Rattle.picky_asn1.specs.Bytes.{Bytes}
use Rattle.krb_realm_accounts.specs.Packed.{packed, unpacked}

-- the first text of a block is the realm, and the others are the name's components
abbrev pub realm_in : Bytes → Bytes
realm_in block = get_or (unpacked block) 0 []

abbrev pub components_in : Bytes → List Bytes
components_in block = drop 1 (unpacked block)

-- a block that is made of texts
abbrev pub IsPacked : Bytes → Type 0
IsPacked block = packed (realm_in block ∷ components_in block) ≡ block

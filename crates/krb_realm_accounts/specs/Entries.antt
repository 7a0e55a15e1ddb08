-- How the accounts are held: by the blocks of their names.
use Rattle.std.specs.Prelude.{◌≡◌, ℕ, true, List, map, Vec}
use Rattle.std.specs.Global.{Global}
use Rattle.std.specs.List.{All}
use Rattle.std.specs.Ordering.{nat_cmp}
use Rattle.std.specs.Cmp.Lexicographic.{slice_cmp}
use Rattle.std.specs.declared.cmp.Ordering.{Ordering}
use Rattle.picky_asn1.specs.Bytes.{Bytes}
use Rattle.krb_realm_accounts.specs.Packed.{fit, packed, unpacked}
use Rattle.krb_realm_accounts.specs.Account.{AccountRecord}

-- the block of a name, for which there is room
abbrev pub IsBlock : Bytes → Type 0
IsBlock block = (packed (unpacked block) ≡ block) × (fit (unpacked block) ≡ true)

-- each is the block of a name, for which there is room
abbrev pub AreBlocks : List (Vec ℕ Global) → Type 0
AreBlocks = All (λ block. IsBlock block.items)

-- a block beside that of an entry
abbrev pub block_cmp : Bytes → Vec ℕ Global → Ordering
block_cmp block key = slice_cmp nat_cmp block key.items

-- the order of two blocks, as entries hold them
abbrev pub cmp_blocks : Vec ℕ Global → Vec ℕ Global → Ordering
cmp_blocks block = block_cmp block.items

-- the name and the account of each entry
abbrev pub named : List (Vec ℕ Global × AccountRecord) → List (List Bytes × AccountRecord)
named entries = map (λ entry. (unpacked entry.0.items, entry.1)) entries

-- The record of a process's integrity level (MS-KILE, section 2.2.5).
use Rattle.std.specs.Prelude.{◌≡◌, ℕ, ◌<◌, ◌^◌, List, [], ◌∷◌, length, take, drop, Option, Some, IfSome, ◌⊎◌}
use Rattle.std.specs.Io.KnownBytes.{IsAtEnd}
use Rattle.std.specs.declared.io.ErrorKind.{ErrorKind}
use Rattle.std.specs.declared.io.ErrorKind.TheVariants.{UnexpectedEof}
use Rattle.byte_streams.specs.Counting.{one_more}
use Rattle.byte_streams.specs.Parts.{Part, part, IsLaidOut}
use Rattle.byte_streams.specs.Numbers.{le32, le32_at}
use Rattle.gss_contexts.specs.declared.message_tokens.integrity.LsapTokenInfoIntegrity.{LsapTokenInfoIntegrity}

-- octets 0 to 3 Flags, 4 to 7 TokenIL, 8 to 39 MachineID
abbrev pub record_parts : LsapTokenInfoIntegrity → List Part
record_parts r = part 0 (le32 r.flags) ∷ part 4 (le32 r.token_il) ∷ part 8 r.machine_id ∷ []

-- LSAP_TOKEN_INFO_INTEGRITY is Flags, TokenIL and MachineID in 40 octets (MS-KILE, section 2.2.5). Test: `integrity_record` of `integrity.rt`.
pub record IsIntegrityRecord (r : LsapTokenInfoIntegrity) (whole : List ℕ) : Type 0 where
  pub parts : IsLaidOut (record_parts r) whole
  pub size : length whole ≡ 40

-- each field is one that its place holds
pub record FitsRecord (r : LsapTokenInfoIntegrity) : Type 0 where
  pub flags : r.flags < 2 ^ 32
  pub token_il : r.token_il < 2 ^ 32
  pub machine_id : length r.machine_id ≡ 32

-- the record that is read from the bytes
abbrev pub record_at : List ℕ → LsapTokenInfoIntegrity
record_at whole = record { flags = le32_at 0 whole; token_il = le32_at 4 whole; machine_id = take 32 (drop 8 whole) }

-- The device is at its end, no call failed, and fewer than 40 bytes were left, where they are known. Or the device failed with this kind
-- of fault and counted it.
abbrev pub IsRecordStop : Option (List ℕ) → Option (List ℕ) → ℕ → ℕ → Option ErrorKind → ErrorKind → Type 0
IsRecordStop left after old new last kind =
    ((kind ≡ UnexpectedEof) × (new ≡ old) × IsAtEnd after × IfSome left (λ bytes. length bytes < 40)) ⊎ ((new ≡ one_more old) × (last ≡ Some kind))

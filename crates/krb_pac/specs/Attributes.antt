-- PAC_ATTRIBUTES_INFO (MS-PAC, section 2.14).
use Rattle.std.specs.Prelude.{ℕ, nat_eq, nat_lt, ◌||◌, List, length, Result, Ok, Err, if◌then◌else◌}
use Rattle.byte_streams.specs.Numbers.{le32_at}
use Rattle.krb_pac.specs.declared.error.PacFault.{PacFault}
use Rattle.krb_pac.specs.declared.error.PacFault.TheVariants.{Short, Lengths, Trailing}
use Rattle.krb_pac.specs.declared.attributes.PacAttributes.{PacAttributes}

-- FlagsLength is how many bits Flags has, in words of 32 bits, and one word is read (MS-PAC, section 2.14). Test: `attributes` of
-- `pac.txt`.
unfoldable pub pac_attributes : List ℕ → Result PacAttributes PacFault
pac_attributes whole =
    if nat_lt (length whole) 8 then Err Short
    else if nat_eq (le32_at 0 whole) 0 || nat_lt 32 (le32_at 0 whole) then Err Lengths
    else if nat_eq (length whole) 8 then Ok (record { flags_length = le32_at 0 whole; flags = le32_at 4 whole }) else Err Trailing

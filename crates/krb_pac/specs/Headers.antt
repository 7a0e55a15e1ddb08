-- The headers of type serialization version 1, and the padding behind the value (MS-RPCE, sections 2.2.6.1 and 2.2.6.2).
use Rattle.std.specs.Prelude.{ℕ, ◌-◌, nat_eq, nat_lt, List, length, Result, Ok, Err, if◌then◌else◌}
use Rattle.byte_streams.specs.Numbers.{le32_at}
use Rattle.krb_pac.specs.declared.error.PacFault.{PacFault}
use Rattle.krb_pac.specs.declared.error.PacFault.TheVariants.{Short, Header, ObjectBufferLength, Trailing}
use Rattle.krb_pac.specs.Places.{aligned}

-- Octets 0 to 3 are Version 1, Endianness 0x10 and CommonHeaderLength 8 (MS-RPCE, section 2.2.6.1). Test: `refused Header` of `pac.txt`.
-- ObjectBufferLength, the octets 8 to 11, is how many octets follow the headers (MS-RPCE, section 2.2.6.2). Test: `refused
-- ObjectBufferLength` of `pac.txt`.
-- Ignored: the Fillers of both headers (MS-RPCE, sections 2.2.6.1 and 2.2.6.2). Test: `pac.txt`.
unfoldable pub value_place : List ℕ → Result ℕ PacFault
value_place whole =
    if nat_lt (length whole) 16 then Err Short
    else if nat_eq (le32_at 0 whole) 0x0008_1001 then (
    if nat_eq (le32_at 8 whole) (length whole - 16) then Ok 16 else Err ObjectBufferLength
    ) else Err Header

-- The octets end at the next multiple of 8 behind the value (MS-RPCE, section 2.2.6.2). Test: `refused Trailing` of `pac.txt`.
unfoldable pub ended_at : ℕ → List ℕ → Result (Unit {0}) PacFault
ended_at place whole = if nat_eq (length whole) (aligned 8 place) then Ok tt else Err Trailing

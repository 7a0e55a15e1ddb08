-- SIDs (MS-DTYP, sections 2.4.2.2 and 2.4.2.3).
use Rattle.std.specs.Prelude.{ℕ, ◌+◌, ◌-◌, nat_eq, nat_lt, not, ◌||◌, List, length, get_or, Option, Some, None, Result, Ok, Err, if◌then◌else◌}
use Rattle.byte_streams.specs.Numbers.{le32_at}
use Rattle.krb_pac.specs.declared.error.PacFault.{PacFault}
use Rattle.krb_pac.specs.declared.error.PacFault.TheVariants.{Short, Sid, Count, Null, Trailing}
use Rattle.krb_pac.specs.declared.sid.SidHead.{SidHead}
use Rattle.krb_pac.specs.Numbers.{be48_at, u32_at}
use Rattle.krb_pac.specs.Arrays.{each_at}
use Rattle.krb_pac.specs.Reading.{◌>>=◌}

-- What a contract sees of a SID.
pub record SidParts : Type 0 where
  pub authority : ℕ
  pub parts : List ℕ

-- Revision is 1, SubAuthorityCount at most 15, and IdentifierAuthority six octets, the highest first (MS-DTYP, section 2.4.2.2).
-- Test: `refused Sid` of `pac.txt`.
unfoldable pub sid_head_at : ℕ → List ℕ → Result (SidHead × ℕ) PacFault
sid_head_at place whole =
    if nat_lt (length whole - place) 8 then Err Short
    else if not (nat_eq (get_or whole place 0) 1) || nat_lt 15 (get_or whole (place + 1) 0) then Err Sid
    else Ok (record { count = get_or whole (place + 1) 0; authority = be48_at (place + 2) whole }, place + 8)

-- The SID whose parts are at a place: SubAuthority, of as many numbers of four octets, the lowest first. Also the place behind them.
unfoldable pub sid_with : SidHead → ℕ → List ℕ → Result (SidParts × ℕ) PacFault
sid_with head place whole = do
  parts ← each_at u32_at head.count place whole
  Ok (record { authority = head.authority; parts = parts.0 }, parts.1)

-- The SID at a place, and the place behind it.
unfoldable pub sid_at : ℕ → List ℕ → Result (SidParts × ℕ) PacFault
sid_at place whole = do
  head ← sid_head_at place whole
  sid_with head.0 head.1 whole

-- The SID that all octets are.
unfoldable pub sid_of_all : List ℕ → Result SidParts PacFault
sid_of_all whole = do
  sid ← sid_at 0 whole
  if nat_eq sid.1 (length whole) then Ok sid.0 else Err Trailing

-- The RPC_SID at a place: a conformant structure, so the count of its parts is in front of it (C706, section 14.3.7.1).
unfoldable pub rpc_sid_at : ℕ → List ℕ → Result (SidParts × ℕ) PacFault
rpc_sid_at place whole = do
  count ← u32_at place whole
  head ← sid_head_at count.1 whole
  if nat_eq head.0.count count.0 then sid_with head.0 head.1 whole else Err Count

-- The RPC_SID at a place of the pointer at `pointer`, which isn't null.
unfoldable pub set_sid_at : ℕ → ℕ → List ℕ → Result (SidParts × ℕ) PacFault
set_sid_at pointer place whole = if nat_eq (le32_at pointer whole) 0 then Err Null else rpc_sid_at place whole

-- The RPC_SID at a place of the pointer at `pointer`. A null pointer has none.
unfoldable pub optional_sid_at : ℕ → ℕ → List ℕ → Result (Option SidParts × ℕ) PacFault
optional_sid_at pointer place whole =
    if nat_eq (le32_at pointer whole) 0 then Ok (None, place) else (rpc_sid_at place whole >>= (λ sid. Ok (Some sid.0, sid.1)))

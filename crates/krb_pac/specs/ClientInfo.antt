-- PAC_CLIENT_INFO (MS-PAC, section 2.7).
use Rattle.std.specs.Prelude.{ℕ, ◌+◌, ◌*◌, nat_eq, nat_lt, Bool, List, ◌∷◌, length, drop, Result, Ok, Err, if◌then◌else◌}
use Rattle.std.specs.Cmp.Lexicographic.{pointwise}
use Rattle.std.specs.List.{flat_map}
use Rattle.byte_streams.specs.Numbers.{le64_at}
use Rattle.krb_pac.specs.declared.client_info.TheConstants.{FILE_TIME_EPOCH}
use Rattle.krb_pac.specs.declared.error.PacFault.{PacFault}
use Rattle.krb_pac.specs.declared.error.PacFault.TheVariants.{Short, Lengths, ClientTime, ClientName}
use Rattle.krb_pac.specs.Numbers.{le16_at}
use Rattle.krb_pac.specs.Upn.{text_of_all}
use Rattle.krb_pac.specs.Reading.{◌>>=◌}

-- What a contract sees of PAC_CLIENT_INFO.
pub record ClientInfo : Type 0 where
  pub client_id : ℕ
  pub name : List ℕ

-- PAC_CLIENT_INFO is ClientId, at 0, NameLength, at 8, and Name, with which the octets end (MS-PAC, section 2.7). Test: `refused Lengths`
-- of `verified_pac.txt`.
unfoldable pub client_info : List ℕ → Result ClientInfo PacFault
client_info whole =
    if nat_lt (length whole) 10 then Err Short
    else if nat_eq (length whole) (10 + le16_at 8 whole) then (
    text_of_all (drop 10 whole) >>= (λ name. Ok (record { client_id = le64_at 0 whole; name = name }))
    ) else Err Lengths

-- A number of units of 100 nanoseconds from 1601 on is that of a second from the year 0 on.
unfoldable pub is_second : ℕ → ℕ → Bool
is_second file_time second = nat_eq (file_time + FILE_TIME_EPOCH) (10 * (second * 1000000))

-- Each component behind a `/`.
abbrev pub slashed : List (List ℕ) → List ℕ
slashed components = flat_map (λ component. 47 ∷ component) components

-- ClientId is the ticket's authtime, and Name its cname, with `/` between components (MS-PAC, section 2.7). Test: `refused ClientTime`,
-- `refused ClientName` of `verified_pac.txt`.
-- Characters of a cname are below 128, so each is one character of UTF-16. Test: `verified_pac.txt`.
unfoldable pub client_judged : List (List ℕ) → ℕ → ClientInfo → Result (Unit {0}) PacFault
client_judged components authtime info =
    if is_second info.client_id authtime then (
    if pointwise nat_eq (47 ∷ info.name) (slashed components) then Ok tt else Err ClientName
    ) else Err ClientTime

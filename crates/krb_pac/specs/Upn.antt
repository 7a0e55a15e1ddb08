-- UPN_DNS_INFO (MS-PAC, section 2.10).
use Rattle.std.specs.Prelude.{ℕ, ◌+◌, ◌/◌, ◌%◌, nat_eq, nat_lt, List, length, take, drop, Option, Some, None, Result, Ok, Err, if◌then◌else◌}
use Rattle.byte_streams.specs.Numbers.{le32_at}
use Rattle.krb_pac.specs.declared.error.PacFault.{PacFault}
use Rattle.krb_pac.specs.declared.error.PacFault.TheVariants.{Short, Lengths}
use Rattle.krb_pac.specs.Numbers.{le16_at, u16_at}
use Rattle.krb_pac.specs.Arrays.{each_at}
use Rattle.krb_pac.specs.Sids.{SidParts, sid_of_all}
use Rattle.krb_pac.specs.Reading.{◌>>=◌}

-- What a contract sees of the account.
pub record SamAccount : Type 0 where
  pub sam_name : List ℕ
  pub sid : SidParts

-- What a contract sees of the client's names.
pub record UpnNames : Type 0 where
  pub upn : List ℕ
  pub dns_domain_name : List ℕ
  pub flags : ℕ
  pub account : Option SamAccount

-- The octets of a field: its length and its offset are at a place, two octets each.
unfoldable pub field_at : ℕ → List ℕ → Result (List ℕ) PacFault
field_at place whole =
    if nat_lt (length whole) (le16_at (place + 2) whole + le16_at place whole) then Err Short
    else Ok (take (le16_at place whole) (drop (le16_at (place + 2) whole) whole))

-- The UTF-16 text that all octets are, of two octets each.
unfoldable pub text_of_all : List ℕ → Result (List ℕ) PacFault
text_of_all whole =
    if nat_eq (length whole % 2) 0 then (each_at u16_at (length whole / 2) 0 whole >>= (λ text. Ok text.0)) else Err Lengths

-- The text of a field.
unfoldable pub upn_text_at : ℕ → List ℕ → Result (List ℕ) PacFault
upn_text_at place whole = field_at place whole >>= text_of_all

-- SamNameLength at 12, SamNameOffset, SidLength at 16 and SidOffset.
unfoldable pub account_at : List ℕ → Result SamAccount PacFault
account_at whole =
    if nat_lt (length whole) 20 then Err Short
    else (upn_text_at 12 whole >>= (λ name. field_at 16 whole >>= (λ octets. sid_of_all octets >>= (λ sid. Ok (record { sam_name = name; sid = sid })))))

-- SamName and Sid are there where the flag of 2 is set (MS-PAC, section 2.10). Test: `pac.txt`.
unfoldable pub account_of : ℕ → List ℕ → Result (Option SamAccount) PacFault
account_of flags whole = if nat_eq (flags / 2 % 2) 0 then Ok None else (account_at whole >>= (λ account. Ok (Some account)))

-- UpnLength at 0, UpnOffset, DnsDomainNameLength at 4, DnsDomainNameOffset, and Flags at 8.
-- Not judged: octets that are of no field, and whether two fields share octets (MS-PAC, section 2.10). Test: `pac.txt`.
unfoldable pub upn_dns_info : List ℕ → Result UpnNames PacFault
upn_dns_info whole =
    if nat_lt (length whole) 12 then Err Short
    else (upn_text_at 0 whole >>= (λ upn. upn_text_at 4 whole >>= (λ name. account_of (le32_at 8 whole) whole >>= (λ account.
    Ok (record { upn = upn; dns_domain_name = name; flags = le32_at 8 whole; account = account })))))

-- KERB_VALIDATION_INFO (MS-PAC, section 2.5).
use Rattle.std.specs.Prelude.{ℕ, ◌+◌, ◌-◌, nat_lt, List, length, take, drop, Option, Result, Ok, Err, if◌then◌else◌}
use Rattle.byte_streams.specs.Numbers.{le32_at, le64_at}
use Rattle.krb_pac.specs.declared.error.PacFault.{PacFault}
use Rattle.krb_pac.specs.declared.error.PacFault.TheVariants.{Short, Null}
use Rattle.krb_pac.specs.declared.groups.GroupMembership.{GroupMembership}
use Rattle.krb_pac.specs.declared.logon_numbers.LogonTimes.{LogonTimes}
use Rattle.krb_pac.specs.declared.logon_numbers.LogonNumbers.{LogonNumbers}
use Rattle.krb_pac.specs.Numbers.{le16_at, pointer_at}
use Rattle.krb_pac.specs.Headers.{value_place, ended_at}
use Rattle.krb_pac.specs.Arrays.{listed_at}
use Rattle.krb_pac.specs.Texts.{text_at}
use Rattle.krb_pac.specs.Sids.{SidParts, set_sid_at, optional_sid_at}
use Rattle.krb_pac.specs.Groups.{group_at}
use Rattle.krb_pac.specs.ExtraSids.{SidAndAttributes, extra_sids_at}
use Rattle.krb_pac.specs.Reading.{◌>>=◌}

-- What a contract sees of the names of an account.
pub record Names : Type 0 where
  pub effective_name : List ℕ
  pub full_name : List ℕ
  pub logon_script : List ℕ
  pub profile_path : List ℕ
  pub home_directory : List ℕ
  pub home_directory_drive : List ℕ

-- What a contract sees of the domain of an account.
pub record Domain : Type 0 where
  pub server : List ℕ
  pub name : List ℕ
  pub sid : SidParts

-- What a contract sees of the groups of the service's domain.
pub record Resources : Type 0 where
  pub domain_sid : Option SidParts
  pub groups : List GroupMembership

-- What a contract sees of logon information.
pub record Logon : Type 0 where
  pub times : LogonTimes
  pub names : Names
  pub numbers : LogonNumbers
  pub groups : List GroupMembership
  pub domain : Domain
  pub extra_sids : List SidAndAttributes
  pub resources : Resources

-- LogonTime, LogoffTime, KickOffTime, PasswordLastSet, PasswordCanChange and PasswordMustChange, at the octets 0 to 47.
unfoldable pub times_at : ℕ → List ℕ → LogonTimes
times_at fixed whole = record {
  logon = le64_at fixed whole;
  logoff = le64_at (fixed + 8) whole;
  kick_off = le64_at (fixed + 16) whole;
  password_last_set = le64_at (fixed + 24) whole;
  password_can_change = le64_at (fixed + 32) whole;
  password_must_change = le64_at (fixed + 40) whole;
}

-- LogonCount at 96, BadPasswordCount at 98, UserId at 100, PrimaryGroupId at 104, UserFlags at 116, UserSessionKey at 120, and
-- UserAccountControl at 164.
unfoldable pub numbers_at : ℕ → List ℕ → LogonNumbers
numbers_at fixed whole = record {
  logon_count = le16_at (fixed + 96) whole;
  bad_password_count = le16_at (fixed + 98) whole;
  user_id = le32_at (fixed + 100) whole;
  primary_group_id = le32_at (fixed + 104) whole;
  user_flags = le32_at (fixed + 116) whole;
  user_session_key = take 16 (drop (fixed + 120) whole);
  user_account_control = le32_at (fixed + 164) whole;
}

-- Three texts, one behind the other. Their structures have 8 octets each, the first at `heads`.
unfoldable pub three_texts_at : ℕ → ℕ → List ℕ → Result ((List ℕ × (List ℕ × List ℕ)) × ℕ) PacFault
three_texts_at heads place whole = do
  first ← text_at heads place whole
  second ← text_at (heads + 8) first.1 whole
  third ← text_at (heads + 16) second.1 whole
  Ok ((first.0, (second.0, third.0)), third.1)

-- EffectiveName at 48, FullName, LogonScript, ProfilePath at 72, HomeDirectory and HomeDirectoryDrive. Also the place behind them.
unfoldable pub names_at : ℕ → ℕ → List ℕ → Result (Names × ℕ) PacFault
names_at fixed place whole = do
  front ← three_texts_at (fixed + 48) place whole
  back ← three_texts_at (fixed + 72) front.1 whole
  Ok (
    record {
      effective_name = front.0.0;
      full_name = front.0.1.0;
      logon_script = front.0.1.1;
      profile_path = back.0.0;
      home_directory = back.0.1.0;
      home_directory_drive = back.0.1.1;
    },
    back.1,
  )

-- LogonServer at 136, LogonDomainName at 144 and LogonDomainId at 152. Also the place behind them.
unfoldable pub domain_at : ℕ → ℕ → List ℕ → Result (Domain × ℕ) PacFault
domain_at fixed place whole = do
  server ← text_at (fixed + 136) place whole
  name ← text_at (fixed + 144) server.1 whole
  sid ← set_sid_at (fixed + 152) name.1 whole
  Ok (record { server = server.0; name = name.0; sid = sid.0 }, sid.1)

-- ResourceGroupDomainSid at 204, ResourceGroupCount at 208 and ResourceGroupIds at 212. The octets end with them.
unfoldable pub resources_at : ℕ → ℕ → List ℕ → Result Resources PacFault
resources_at fixed place whole = do
  sid ← optional_sid_at (fixed + 204) place whole
  groups ← listed_at group_at (fixed + 208) sid.1 whole
  ended_at groups.1 whole >>= (λ _. Ok (record { domain_sid = sid.0; groups = groups.0 }))

-- Referents follow the 216 octets of the structure, in the order of its pointers (C706, section 14.3.12.3). Test: `pac.txt`.
unfoldable pub info_at : ℕ → List ℕ → Result Logon PacFault
info_at fixed whole = do
  names ← names_at fixed (fixed + 216) whole
  groups ← listed_at group_at (fixed + 108) names.1 whole
  domain ← domain_at fixed groups.1 whole
  extra_sids ← extra_sids_at (fixed + 196) domain.1 whole
  resources ← resources_at fixed extra_sids.1 whole
  Ok (record {
    times = times_at fixed whole;
    names = names.0;
    numbers = numbers_at fixed whole;
    groups = groups.0;
    domain = domain.0;
    extra_sids = extra_sids.0;
    resources = resources;
  })

-- The place of the fixed part, all of which is there: behind the headers and a pointer, which isn't null.
unfoldable pub fixed_place : List ℕ → Result ℕ PacFault
fixed_place whole = do
  place ← value_place whole
  pointer ← pointer_at place whole
  if pointer.0 then (if nat_lt (length whole - pointer.1) 216 then Err Short else Ok pointer.1) else Err Null

-- The logon information that all octets are.
-- Ignored: Reserved1, SubAuthStatus, the interactive logons and Reserved3 (MS-PAC, section 2.5). Test: `pac.txt`.
unfoldable pub logon_info : List ℕ → Result Logon PacFault
logon_info whole = do
  fixed ← fixed_place whole
  info_at fixed whole

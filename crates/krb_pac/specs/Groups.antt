-- GROUP_MEMBERSHIP (MS-PAC, section 2.2.2).
use Rattle.std.specs.Prelude.{ℕ, List, Result, Ok}
use Rattle.krb_pac.specs.declared.error.PacFault.{PacFault}
use Rattle.krb_pac.specs.declared.groups.GroupMembership.{GroupMembership}
use Rattle.krb_pac.specs.Numbers.{u32_at}
use Rattle.krb_pac.specs.Reading.{◌>>=◌}

-- RelativeId and Attributes, and the place behind them.
unfoldable pub group_at : ℕ → List ℕ → Result (GroupMembership × ℕ) PacFault
group_at place whole = do
  relative_id ← u32_at place whole
  attributes ← u32_at relative_id.1 whole
  Ok (record { relative_id = relative_id.0; attributes = attributes.0 }, attributes.1)

-- KERB_SID_AND_ATTRIBUTES (MS-PAC, section 2.2.1).
use Rattle.std.specs.Prelude.{ℕ, List, [], ◌∷◌, Result, Ok, Err, if◌then◌else◌}
use Rattle.krb_pac.specs.declared.error.PacFault.{PacFault}
use Rattle.krb_pac.specs.declared.error.PacFault.TheVariants.{Null}
use Rattle.krb_pac.specs.declared.extra_sids.SidRow.{SidRow}
use Rattle.krb_pac.specs.Numbers.{u32_at, pointer_at}
use Rattle.krb_pac.specs.Arrays.{in_front, listed_at}
use Rattle.krb_pac.specs.Sids.{SidParts, rpc_sid_at}
use Rattle.krb_pac.specs.Reading.{◌>>=◌}

-- What a contract sees of a SID with its attributes.
pub record SidAndAttributes : Type 0 where
  pub sid : SidParts
  pub attributes : ℕ

-- This SID with the attributes of its row.
abbrev pub extra_of : SidParts → SidRow → SidAndAttributes
extra_of sid row = record { sid = sid; attributes = row.attributes }

-- A pointer, which isn't null, and Attributes. Also the place behind them.
unfoldable pub sid_row_at : ℕ → List ℕ → Result (SidRow × ℕ) PacFault
sid_row_at place whole = do
  pointer ← pointer_at place whole
  if pointer.0 then (u32_at pointer.1 whole >>= (λ attributes. Ok (record { attributes = attributes.0 }, attributes.1))) else Err Null

-- The SID of each row, the first at a place, and the place behind them.
abbrev pub sids_at : List SidRow → ℕ → List ℕ → Result (List SidAndAttributes × ℕ) PacFault
sids_at [] place whole = Ok ([], place)
sids_at (row ∷ rows) place whole = rpc_sid_at place whole >>= (λ sid. in_front (extra_of sid.0 row ∷ []) (sids_at rows sid.1 whole))

-- SIDs follow the array of their pointers and attributes, in the order of the pointers (C706, section 14.3.12.3). Test: `pac.txt`.
unfoldable pub extra_sids_at : ℕ → ℕ → List ℕ → Result (List SidAndAttributes × ℕ) PacFault
extra_sids_at head place whole = do
  rows ← listed_at sid_row_at head place whole
  sids_at rows.0 rows.1 whole

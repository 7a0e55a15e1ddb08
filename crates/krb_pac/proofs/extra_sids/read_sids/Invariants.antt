use Rattle.std.proofs.Common.{◌≡◌, drop}
use Rattle.krb_pac.specs.Arrays.{in_front}
use Rattle.krb_pac.specs.ExtraSids.{sids_at}
use Rattle.krb_pac.proofs.extra_sids.read_sids.Given as goal

-- the SIDs so far, and what is left
abbrev pub invariant-loop-row : goal.invariant-loop-row
invariant-loop-row l = in_front l.sids.items (sids_at (drop l.row-index l.rows) l.end l.bytes) ≡ sids_at l.rows l.place l.bytes

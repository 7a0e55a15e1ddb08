use Rattle.std.proofs.Common.{◌≡◌, ◌-◌, length}
use Rattle.krb_file_formats.specs.Reading.{followed, entries_at}
use Rattle.krb_file_formats.proofs.keytab.read_records.Given as goal

-- the entries so far, and what is left
abbrev pub invariant-loop : goal.invariant-loop
invariant-loop l = followed l.records.items (entries_at (length l.bytes - l.counter) l.place l.bytes) ≡ entries_at (length l.bytes) 2 l.bytes

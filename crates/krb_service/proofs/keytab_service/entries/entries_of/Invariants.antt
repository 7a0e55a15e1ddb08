use Rattle.std.proofs.Common.{◌≡◌, take}
use Rattle.krb_service.specs.KeytabEntries.{entries_of}
use Rattle.krb_service.proofs.keytab_service.entries.entries_of.Given as goal

-- the entries so far
abbrev pub invariant-loop-key_record : goal.invariant-loop-key_record
invariant-loop-key_record l = l.entries.items ≡ entries_of l.realm l.name (take l.key_record-index l.key_record-items)

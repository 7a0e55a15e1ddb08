use Rattle.std.proofs.Common.{◌≡◌, ◌++◌, take}
use Rattle.std.specs.List.{flat_map}
use Rattle.krb_realm_files.specs.FurtherFields.{older_bytes}
use Rattle.krb_realm_files.proofs.further_fields.put_keys.Given as goal

-- the keys so far
abbrev pub invariant-loop-own : goal.invariant-loop-own
invariant-loop-own l = l.to.items ≡ l.initial.to.items ++ flat_map older_bytes (take l.own-index l.keys)

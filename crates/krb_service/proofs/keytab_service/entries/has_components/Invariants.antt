use Rattle.std.proofs.Common.{◌≡◌, ◌&&◌, drop}
use Rattle.krb_messages.specs.Names.{is_same_name}
use Rattle.krb_realm_accounts.specs.Names.{parts}
use Rattle.krb_service.proofs.keytab_service.entries.has_components.Given as goal

-- the components so far are the same, and those that are left, if all are
abbrev pub invariant-loop-place : goal.invariant-loop-place
invariant-loop-place l = (l.same && is_same_name (drop l.place l.components) (parts (drop l.place l.name))) ≡ is_same_name l.components (parts l.name)

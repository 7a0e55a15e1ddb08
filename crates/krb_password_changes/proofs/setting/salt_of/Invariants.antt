use Rattle.std.proofs.Common.{◌≡◌, take}
use Rattle.krb_realm_accounts.specs.Passwords.{password_salt}
use Rattle.krb_password_changes.proofs.setting.salt_of.Given as goal

abbrev pub invariant-loop-component : goal.invariant-loop-component
invariant-loop-component l = l.salt.items ≡ password_salt l.realm (take l.component-index l.name)

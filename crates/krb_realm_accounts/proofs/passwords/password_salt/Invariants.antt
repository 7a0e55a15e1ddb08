use Rattle.std.proofs.Common.{◌≡◌, take}
use Rattle.krb_realm_accounts.specs.Names.{parts}
use Rattle.krb_realm_accounts.specs.Passwords.{password_salt}
use Rattle.krb_realm_accounts.proofs.passwords.password_salt.Given as goal

abbrev pub invariant-loop-component : goal.invariant-loop-component
invariant-loop-component l = l.salt.items ≡ password_salt l.realm (parts (take l.component-index l.name))

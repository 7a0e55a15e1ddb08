use Rattle.std.proofs.Common.{◌≢◌, ℕ, subst, ◌∙◌}
use Rattle.krb_crypto.specs.Suites.{cipher_number}
use Rattle.krb_crypto.specs.declared.suite.CipherSuite.{CipherSuite}
use Rattle.krb_realm_files.proofs.Numbered.{numbered, unnumbered}
use Rattle.krb_realm_files.proofs.further_fields.suite_numbered.Goals as goal

pub returns : goal.returns
returns c = numbered c.in-Ok.suite c.args.number (c.in-Ok.ensures ∙ c.from.ensures)

pub returns-in_default : goal.returns-in_default
returns-in_default c =
    unnumbered c.args.number (subst (λ (n : ℕ). (suite : CipherSuite) → cipher_number suite ≢ n) c.from.ensures c.in_default.ensures.1)

-- The suite that has a number.
use Rattle.std.specs.Prelude.{ℕ, ◌==◌, List, [], ◌∷◌, Option, None, Some, if◌then◌else◌}
use Rattle.krb_crypto.specs.declared.suite.CipherSuite.{CipherSuite}
use Rattle.krb_crypto.specs.Suites.{cipher_number, cipher_suites}

-- The suite of these that has a number, if one has it.
abbrev suite_among : ℕ → List CipherSuite → Option CipherSuite
suite_among number [] = None
suite_among number (suite ∷ suites) = if cipher_number suite == number then Some suite else suite_among number suites

-- The suite that has this number, if one has it.
abbrev pub suite_numbered : ℕ → Option CipherSuite
suite_numbered number = suite_among number cipher_suites

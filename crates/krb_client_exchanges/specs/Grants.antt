-- What a client takes of a reply, by the suite of its session key.
use Rattle.std.specs.Prelude.{List, Ok, Err, if◌then◌else◌}
use Rattle.krb_crypto.specs.declared.suite.CipherSuite.{CipherSuite}
use Rattle.krb_client.specs.Taking.{Taken}
use Rattle.krb_client.specs.declared.refusal.TakeRefusal.TheVariants.{NotAsked}
use Rattle.krb_client_exchanges.specs.Suites.{is_one_of}

-- A client takes no session key of a suite that its request doesn't list, since no KDC may choose one (RFC 4120, sections 3.1.3, 3.3.3).
-- Test: `reply, session key of another suite` of `hints.txt`.
abbrev pub taken_of_suites : List CipherSuite → Taken → Taken
taken_of_suites suites (Ok credential) = if is_one_of suites credential.suite then Ok credential else Err NotAsked
taken_of_suites suites (Err refusal) = Err refusal

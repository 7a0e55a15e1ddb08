use Rattle.std.proofs.Common.{◌≡◌, None, length, drop}
use Rattle.std.specs.Option.{IfSome, option_copied}
use Rattle.krb_crypto.specs.Suites.{cipher_key_size}
use Rattle.krb_client_exchanges.specs.SharedKeys.{newest_after}
use Rattle.krb_client_exchanges.proofs.secret.newest_record.Given as goal

-- what is newest up to here, and after it, is what is newest of all
abbrev pub invariant-loop-record : goal.invariant-loop-record
invariant-loop-record l = record {
  rest : newest_after l.client l.suite (option_copied l.newest) (drop l.record-index l.keytab) ≡ newest_after l.client l.suite None l.keytab;
  sized : IfSome (option_copied l.newest) (λ entry. length entry.key ≡ cipher_key_size l.suite);
}

-- The record of an account: octet 0 the version, octet 1 the suite's number, octets 2 to 5 the kvno, the lowest first, octet 6 the marks, then the
-- key, which has as many octets as its suite's keys, and then the further fields that the marks say. The record of an account without older
-- keys and attributes has no further field but the salt.
use Rattle.std.specs.Prelude.{ℕ, ◌+◌, ◌==◌, ◌||◌, nat_lt, not, List, ◌∷◌, ◌++◌, length, take, drop, slice_index, Option, None, Some, if◌then◌else◌}
use Rattle.std.specs.Option.{option_map}
use Rattle.byte_streams.specs.Numbers.{le32, le32_at}
use Rattle.krb_crypto.specs.declared.suite.CipherSuite.{CipherSuite}
use Rattle.krb_crypto.specs.Suites.{cipher_key_size, cipher_number}
use Rattle.krb_realm_accounts.specs.Account.{AccountRecord}
use Rattle.krb_realm_files.specs.FurtherFields.{Further, further_bytes, further_in, marks_of}
use Rattle.krb_realm_files.specs.SuiteNumbers.{suite_numbered}
use Rattle.krb_realm_files.specs.declared.format.TheConstants.{ACCOUNT_HEAD, RECORD_VERSION}

-- The account of this suite, kvno and key, with what stands behind the key.
abbrev pub with_further : CipherSuite → ℕ → List ℕ → Further → AccountRecord
with_further suite kvno key further = record { suite = suite; key = key; kvno = kvno; salt = further.salt; former = further.former; attributes = further.attributes }

-- The account of this suite whose record the octets are, if they are one. A kvno counts from 1.
unfoldable pub account_behind : CipherSuite → List ℕ → Option AccountRecord
account_behind suite octets =
    if (le32_at 2 octets == 0) || nat_lt (length octets) (ACCOUNT_HEAD + cipher_key_size suite) then None
    else
    option_map (with_further suite (le32_at 2 octets) (take (cipher_key_size suite) (drop ACCOUNT_HEAD octets)))
    (further_in (le32_at 2 octets) (slice_index octets 6) (drop (ACCOUNT_HEAD + cipher_key_size suite) octets))

-- The account of this suite whose record the octets are, if there is a suite and they are one.
abbrev pub of_suite : List ℕ → Option CipherSuite → Option AccountRecord
of_suite octets None = None
of_suite octets (Some suite) = account_behind suite octets

-- The account whose record the octets are, if they are one.
unfoldable pub account_in : List ℕ → Option AccountRecord
account_in octets =
    if nat_lt (length octets) ACCOUNT_HEAD || not (slice_index octets 0 == RECORD_VERSION) then None else of_suite octets (suite_numbered (slice_index octets 1))

-- The record of an account.
unfoldable pub account_bytes : AccountRecord → List ℕ
account_bytes account = RECORD_VERSION ∷ cipher_number account.suite ∷ (le32 account.kvno ++ (marks_of account ∷ (account.key ++ further_bytes account)))

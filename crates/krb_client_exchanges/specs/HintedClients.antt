-- Clients whose key is made as a KDC says (RFC 4120, section 5.2.7.5).
use Rattle.std.specs.Prelude.{not, ◌==◌, ◌&&◌, nat_eq, Bool, true, false, List, length, Result, Ok, Err, if◌then◌else◌}
use Rattle.std.specs.Cmp.Lexicographic.{pointwise}
use Rattle.std.specs.Option.{option_map_or}
use Rattle.picky_asn1.specs.Bytes.{Bytes}
use Rattle.krb_crypto.specs.Sealing.{password_key_of}
use Rattle.krb_crypto.specs.declared.suite.CipherSuite.{CipherSuite}
use Rattle.krb_crypto.specs.declared.suite.CipherSuite.TheVariants.{Aes128CtsHmacSha196, Aes256CtsHmacSha196, Des3CbcSha1Kd, Aes128CtsHmacSha256128, Aes256CtsHmacSha384192}
use Rattle.krb_realm_accounts.specs.Names.{are_components, is_realm_name}
use Rattle.krb_realm_accounts.specs.Passwords.{password_salt}
use Rattle.krb_client.specs.Client.{ClientRecord}
use Rattle.krb_client.specs.declared.by_key.ByKey.{ByKey}
use Rattle.krb_client_exchanges.specs.Suites.{is_one_of, suites_of}
use Rattle.krb_client_exchanges.specs.declared.hint.KeyHint.{KeyHint}
use Rattle.krb_client_exchanges.specs.declared.refusal.HintedClientRefusal.{HintedClientRefusal}
use Rattle.krb_client_exchanges.specs.declared.refusal.HintedClientRefusal.TheVariants.{BadName, NoKey, OtherSalt, OtherSuite}
use Rattle.krb_client_exchanges.specs.declared.wanted.Wanted.{Wanted}
use Rattle.krb_client_exchanges.specs.declared.wanted.Wanted.TheVariants.{Chosen, Usual}

-- The salt is the KDC's, or where it names none the realm followed by the components (RFC 4120, section 5.2.7.5). Test: `mit no salt`,
-- `mit norealm` of `hints.txt`.
abbrev pub salt_by : KeyHint → Bytes → List Bytes → Bytes
salt_by hint realm components = option_map_or (λ salt. salt) hint.salt (password_salt realm components)

-- Triple DES has no key of an empty password with an empty salt (RFC 3961, section 6.3.1). Test: `no key` of `hints.txt`.
abbrev pub has_no_key : CipherSuite → Bytes → Bytes → Bool
has_no_key Aes128CtsHmacSha196 password salt = false
has_no_key Aes256CtsHmacSha196 password salt = false
has_no_key Des3CbcSha1Kd password salt = (length password == 0) && (length salt == 0)
has_no_key Aes128CtsHmacSha256128 password salt = false
has_no_key Aes256CtsHmacSha384192 password salt = false

-- There is no key of the password with the KDC's salt.
abbrev pub is_keyless : KeyHint → Bytes → Bool
is_keyless hint password = option_map_or (has_no_key hint.suite password) hint.salt false

-- The salt is the default one, the realm followed by the components: the KDC names none, or this one.
abbrev pub has_default_salt : KeyHint → Bytes → List Bytes → Bool
has_default_salt hint realm components = option_map_or (λ salt. pointwise nat_eq salt (password_salt realm components)) hint.salt true

-- A salt of the KDC's that isn't the default one is taken only in a suite that the user named: no error that names it is authenticated (RFC
-- 4120, section 3.1.3). Test: `forged empty salt`, `mit norealm, not named`, `mit special, named` of `hints.txt`.
abbrev pub takes_salt : Wanted → KeyHint → Bytes → List Bytes → Bool
takes_salt Usual hint realm components = has_default_salt hint realm components
takes_salt (Chosen suites) hint realm components = true

-- A key is made in a suite that the client takes, and in no other one (RFC 4120, section 5.2.7.5). Test: `hint of triple DES, not named` of
-- `hints.txt`.
abbrev pub takes_suite : Wanted → KeyHint → Bool
takes_suite wanted hint = is_one_of (suites_of wanted) hint.suite

-- The client of this name with the hint's suite, and its key, which is that of the password and the salt; or why there is none.
abbrev pub client_by_hint : Wanted → Bytes → List Bytes → Bytes → KeyHint → Result (ClientRecord × ByKey) HintedClientRefusal
client_by_hint wanted realm components password hint =
    if not (is_realm_name realm && are_components components) then Err BadName
    else if not (takes_suite wanted hint) then Err OtherSuite
    else if not (takes_salt wanted hint realm components) then Err OtherSalt
    else if is_keyless hint password then Err NoKey
    else Ok (
      record { realm = realm; components = components; suite = hint.suite },
      record { key = record { suite = hint.suite; bytes = password_key_of hint.suite password (salt_by hint realm components) } },
    )

-- Accounts whose key is that of a password (RFC 4120, section 4, RFC 3962, section 4).
use Rattle.std.specs.Prelude.{List, ◌++◌, Some}
use Rattle.std.specs.List.{flat_map}
use Rattle.picky_asn1.specs.Bytes.{Bytes}
use Rattle.krb_crypto.specs.declared.suite.CipherSuite.{CipherSuite}
use Rattle.krb_crypto.specs.Sealing.{password_key_of}
use Rattle.krb_realm_accounts.specs.Account.{AccountRecord, one_key}

-- The salt of a password is the realm, followed by the components (RFC 4120, section 4). Test: `as no preauthentication`.
abbrev pub password_salt : Bytes → List Bytes → Bytes
password_salt realm components = realm ++ flat_map (λ component. component) components

-- an account with the first key of a password and a salt
abbrev pub password_account : CipherSuite → Bytes → Bytes → AccountRecord
password_account suite password salt = one_key suite (password_key_of suite password salt) 1 (Some salt)

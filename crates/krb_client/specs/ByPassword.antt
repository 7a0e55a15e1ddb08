-- Clients that authenticate themselves by a password (RFC 4120, section 4).
use Rattle.std.specs.Prelude.{not, ◌&&◌, List, Result, Ok, Err, if◌then◌else◌}
use Rattle.picky_asn1.specs.Bytes.{Bytes}
use Rattle.krb_crypto.specs.Sealing.{password_key_of}
use Rattle.krb_crypto.specs.declared.suite.CipherSuite.{CipherSuite}
use Rattle.krb_realm_accounts.specs.Names.{are_components, is_realm_name}
use Rattle.krb_realm_accounts.specs.Passwords.{password_salt}
use Rattle.krb_client.specs.Client.{ClientRecord}
use Rattle.krb_client.specs.declared.by_key.ByKey.{ByKey}
use Rattle.krb_client.specs.declared.refusal.AskRefusal.{AskRefusal}
use Rattle.krb_client.specs.declared.refusal.AskRefusal.TheVariants.{BadName}

-- the client of this name, and its key, which is that of the password and a salt of its realm and name; or why there is none
abbrev pub client_by_password : Bytes → List Bytes → CipherSuite → Bytes → Result (ClientRecord × ByKey) AskRefusal
client_by_password realm components suite password =
    if not (is_realm_name realm && are_components components) then Err BadName
    else Ok (
      record { realm = realm; components = components; suite = suite },
      record { key = record { suite = suite; bytes = password_key_of suite password (password_salt realm components) } },
    )

-- Clients: the client's name, and how the client authenticates itself.
use Rattle.std.specs.Prelude.{◌≡◌, ◌⊎◌, not, ◌&&◌, true, false, List, Result, Ok, Err, if◌then◌else◌}
use Rattle.picky_asn1.specs.Bytes.{Bytes}
use Rattle.krb_crypto.specs.Keys.{KeyRecord}
use Rattle.krb_crypto.specs.Sealing.{password_key_of}
use Rattle.krb_crypto.specs.declared.suite.CipherSuite.{CipherSuite}
use Rattle.krb_realm_accounts.specs.Names.{are_components, is_realm_name}
use Rattle.krb_realm_accounts.specs.Passwords.{password_salt}
use Rattle.krb_client.specs.Client.{ClientRecord, client_named}
use Rattle.krb_client.specs.Means.{MeansRecord}
use Rattle.krb_client.specs.EncryptedTimestamps.{by_key}
use Rattle.krb_client.specs.declared.refusal.AskRefusal.{AskRefusal}
use Rattle.krb_client.specs.declared.refusal.AskRefusal.TheVariants.{BadCertificate, BadName, Memory}
use Rattle.x509_keys.specs.KeyFunctions.{KeysRecord}
use Rattle.pkinit_validation.specs.Anchors.{AnchorRecord}
use Rattle.pkinit_clients.specs.Means.{by_certificate}
use Rattle.krb_memory_realms.specs.Settings.{IsCertificateIf}

-- how a client authenticates itself: by a key shared with its realm, or by a certificate, with the anchor of the realm's certificate
pub data ClientBy : Type 0 where
  ByKey : KeyRecord → ClientBy
  ByCertificate : Bytes → AnchorRecord → ClientBy

pub record ClientState : Type 0 where
  pub client : ClientRecord
  pub by : ClientBy

-- the client's means, with its key functions
abbrev pub means_by : ClientBy → KeysRecord → MeansRecord
means_by (ByKey key) keys = by_key key.suite key.bytes
means_by (ByCertificate certificate anchor) keys = by_certificate certificate anchor keys

-- A client's means: by its key, or by its certificate with these key functions (RFC 4120, section 3.1.1; RFC 4556, section 3.2.1).
abbrev pub means_of : ClientState → KeysRecord → MeansRecord
means_of client keys = means_by client.by keys

-- what holds of every client: its key is of the suite that it asks for
abbrev pub IsOfSuite : CipherSuite → ClientBy → Type 0
IsOfSuite suite (ByKey key) = key.suite ≡ suite
IsOfSuite suite (ByCertificate certificate anchor) = Unit {0}

-- the client with this password (RFC 4120, section 4), or why there is none
abbrev pub client_by_password : Bytes → List Bytes → CipherSuite → Bytes → Result ClientState AskRefusal
client_by_password realm components suite password =
    if not (is_realm_name realm && are_components components) then Err BadName
    else Ok (record {
      client = record { realm = realm; components = components; suite = suite };
      by = ByKey (record { suite = suite; bytes = password_key_of suite password (password_salt realm components) });
    })

-- the client with this certificate, which is one
pub record IsClientByCertificate (realm : Bytes) (components : List Bytes) (suite : CipherSuite) (certificate : Bytes) (anchor : AnchorRecord) (client : ClientState) : Type 0 where
  pub named : client_named realm components suite ≡ Ok client.client
  pub certified : IsCertificateIf certificate true
  pub by : client.by ≡ ByCertificate certificate anchor

-- why there is none: memory ran out, a name is none, or the certificate is none
abbrev pub IsNoClient : Bytes → List Bytes → CipherSuite → Bytes → AskRefusal → Type 0
IsNoClient realm components suite certificate refusal =
    (refusal ≡ Memory) ⊎ ((client_named realm components suite ≡ Err refusal)
    ⊎ ((refusal ≡ BadCertificate) × ((client : ClientRecord) × (client_named realm components suite ≡ Ok client)) × IsCertificateIf certificate false))

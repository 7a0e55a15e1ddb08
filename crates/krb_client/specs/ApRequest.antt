-- The request to a service (RFC 4120, section 3.2.2).
use Rattle.std.specs.Prelude.{◌≡◌, Bool, Option, None, Some, if◌then◌else◌}
use Rattle.std.specs.Int.{cast_unsigned, w32}
use Rattle.std.specs.Option.{option_map}
use Rattle.krb_time.specs.Units.{Micros}
use Rattle.picky_asn1.specs.Bytes.{Bytes}
use Rattle.krb_constants.specs.declared.key_usages.TheConstants.{AP_REQ_AUTHENTICATOR}
use Rattle.krb_crypto.specs.declared.suite.CipherSuite.{CipherSuite}
use Rattle.krb_crypto.specs.Sealing.{seed_key_of}
use Rattle.krb_crypto.specs.Suites.{cipher_confounder_size, cipher_seed_size}
use Rattle.krb_messages.specs.declared.data_types.authenticator.AuthenticatorInner.{AuthenticatorInner}
use Rattle.krb_messages.specs.declared.data_types.encryption_key.EncryptionKey.{EncryptionKey}
use Rattle.krb_messages.specs.RandomBytes.{Random, authenticator_confounder, subkey_seed}
use Rattle.krb_client.specs.Asked.{ApAskedRecord}
use Rattle.krb_client.specs.Authenticators.{IsApRequest, IsAuthenticatorOf, sole_presented, sole_authenticator_of}
use Rattle.krb_client.specs.Client.{ClientRecord, CredentialRecord}
use Rattle.krb_tickets.specs.Sealing.{encryption_key}

-- the subkey, where one is asked for: that of a seed, which are random bytes from the thirty-third on
abbrev pub chosen_subkey : Bool → CipherSuite → Random → Option Bytes
chosen_subkey with_subkey suite words = if with_subkey then Some (seed_key_of suite (subkey_seed (cipher_seed_size suite) words)) else None

-- the subkey with the number of its suite
abbrev pub presented_subkey : Bool → CipherSuite → Random → Option EncryptionKey
presented_subkey with_subkey suite words = option_map (encryption_key suite) (chosen_subkey with_subkey suite words)

-- the bytes are the client's request, by the credential, at the moment, with or without an answer and a subkey, for the
-- key usage of AP requests (RFC 4120, section 7.5.1); of the random bytes the first are the confounder
pub record AsksAp (client : ClientRecord) (credential : CredentialRecord) (mutual_required with_subkey : Bool) (moment : Micros) (words : Random) (bytes : Bytes) : Type 0 where
  pub authenticator : AuthenticatorInner
  pub authenticates : IsAuthenticatorOf client moment None (presented_subkey with_subkey credential.suite words) authenticator
  pub presents : IsApRequest credential (cast_unsigned w32 AP_REQ_AUTHENTICATOR) mutual_required authenticator (authenticator_confounder (cipher_confounder_size credential.suite) words) bytes

-- what the client remembers of it
abbrev pub ap_asked : CredentialRecord → Bool → Micros → Random → ApAskedRecord
ap_asked credential with_subkey moment words = record {
  suite = credential.suite;
  key = credential.key;
  time = moment;
  subkey = chosen_subkey with_subkey credential.suite words;
}

-- there is one such request at most
pub sole_ap_request : (client : ClientRecord) (credential : CredentialRecord) (mutual_required with_subkey : Bool) (moment : Micros) (words : Random) (a b : Bytes)
    → AsksAp client credential mutual_required with_subkey moment words a → AsksAp client credential mutual_required with_subkey moment words b → a ≡ b
sole_ap_request client credential mutual_required with_subkey moment words a b x y =
    sole_presented credential (cast_unsigned w32 AP_REQ_AUTHENTICATOR) mutual_required (authenticator_confounder (cipher_confounder_size credential.suite) words) x.authenticator y.authenticator a b
    (sole_authenticator_of client moment None (presented_subkey with_subkey credential.suite words) x.authenticator y.authenticator x.authenticates y.authenticates)
    x.presents y.presents

-- The AP-REQ of a context (RFC 4121, section 4.1.1; RFC 4120, section 5.5.1).
use Rattle.std.specs.Prelude.{◌≡◌, ℕ, Bool, true, Some, pos}
use Rattle.std.specs.Int.{cast_unsigned, w32}
use Rattle.std.proofs.Common.{ap, sym, ◌∙◌}
use Rattle.picky_asn1.specs.Bytes.{Bytes}
use Rattle.krb_time.specs.Units.{Micros}
use Rattle.krb_constants.specs.declared.key_usages.TheConstants.{AP_REQ_AUTHENTICATOR}
use Rattle.krb_crypto.specs.Sealing.{seed_key_of}
use Rattle.krb_crypto.specs.Suites.{cipher_confounder_size, cipher_seed_size}
use Rattle.krb_crypto.specs.declared.suite.CipherSuite.{CipherSuite}
use Rattle.krb_messages.specs.RandomBytes.{Random, authenticator_confounder, subkey_seed}
use Rattle.krb_messages.specs.declared.data_types.authenticator.AuthenticatorInner.{AuthenticatorInner}
use Rattle.krb_messages.specs.declared.data_types.checksum.Checksum.{Checksum}
use Rattle.krb_tickets.specs.Sealing.{encryption_key}
use Rattle.krb_client.specs.ApRequest.{presented_subkey}
use Rattle.krb_client.specs.Authenticators.{IsApRequest, IsAuthenticatorOf, sole_authenticator_of, sole_presented}
use Rattle.krb_client.specs.Client.{ClientRecord, CredentialRecord}
use Rattle.krb_client.specs.Requests.{nonce_of}
use Rattle.gss_acceptor.specs.declared.checksum.InitialChecksum.{InitialChecksum}
use Rattle.gss_initiator.specs.Checksums.{initial_checksum, is_mutual}
use Rattle.gss_initiator.specs.declared.request.ContextParts.{ContextParts}

-- the subkey of the random bytes
abbrev pub own_subkey : CipherSuite → Random → Bytes
own_subkey suite words = seed_key_of suite (subkey_seed (cipher_seed_size suite) words)

-- what the authenticator has beside the client's: checksum, subkey and first sequence number
abbrev pub context_parts : CipherSuite → Checksum → Random → ContextParts
context_parts suite checksum words = record {
  checksum = checksum;
  subkey = encryption_key suite (own_subkey suite words);
  number = pos (nonce_of words);
}

-- the authenticator with a first sequence number
abbrev pub numbered : AuthenticatorInner → ℕ → AuthenticatorInner
numbered authenticator number = record authenticator { seq_number = record { 0 = Some (record { 0 = pos number }) } }

-- The authenticator is the client's of the moment. It has the checksum, a subkey always, and a first sequence number of 31 bits, both of
-- the random bytes (RFC 4121, sections 2 and 4.1.1; RFC 4120, section 5.5.1). Test: `initiate ContinueNeeded`.
pub record IsAuthenticatorWith (client : ClientRecord) (credential : CredentialRecord) (checksum : Checksum) (moment : Micros) (words : Random) (authenticator : AuthenticatorInner) : Type 0 where
  pub plain : AuthenticatorInner
  pub authenticates : IsAuthenticatorOf client moment (Some checksum) (presented_subkey true credential.suite words) plain
  pub numbers : authenticator ≡ numbered plain (nonce_of words)

-- the authenticator whose checksum has these bindings and flags
abbrev pub IsContextAuthenticator : ClientRecord → CredentialRecord → InitialChecksum → Micros → Random → AuthenticatorInner → Type 0
IsContextAuthenticator client credential initial moment words authenticator = IsAuthenticatorWith client credential (initial_checksum initial) moment words authenticator

-- the AP-REQ with the authenticator that has this checksum, which may require an AP-REP; of the random bytes the first are the confounder
pub record AsksWith (client : ClientRecord) (credential : CredentialRecord) (checksum : Checksum) (wants_reply : Bool) (moment : Micros) (words : Random) (request : Bytes) : Type 0 where
  pub authenticator : AuthenticatorInner
  pub authenticates : IsAuthenticatorWith client credential checksum moment words authenticator
  pub presents : IsApRequest credential (cast_unsigned w32 AP_REQ_AUTHENTICATOR) wants_reply authenticator (authenticator_confounder (cipher_confounder_size credential.suite) words) request

-- the AP-REQ of these bindings and flags, which requires an AP-REP where the flag of mutual authentication is set
abbrev pub AsksContext : ClientRecord → CredentialRecord → InitialChecksum → Micros → Random → Bytes → Type 0
AsksContext client credential initial moment words request = AsksWith client credential (initial_checksum initial) (is_mutual initial.flags) moment words request

sole_authenticator_with : (client : ClientRecord) (credential : CredentialRecord) (checksum : Checksum) (moment : Micros) (words : Random) (a b : AuthenticatorInner)
    → IsAuthenticatorWith client credential checksum moment words a → IsAuthenticatorWith client credential checksum moment words b → a ≡ b
sole_authenticator_with client credential checksum moment words a b x y =
    let same = sole_authenticator_of client moment (Some checksum) (presented_subkey true credential.suite words) x.plain y.plain x.authenticates y.authenticates in
    x.numbers ∙ ap (λ plain. numbered plain (nonce_of words)) same ∙ sym y.numbers

-- there is one such request at most
pub sole_request_with : (client : ClientRecord) (credential : CredentialRecord) (checksum : Checksum) (wants_reply : Bool) (moment : Micros) (words : Random) (a b : Bytes)
    → AsksWith client credential checksum wants_reply moment words a → AsksWith client credential checksum wants_reply moment words b → a ≡ b
sole_request_with client credential checksum wants_reply moment words a b x y =
    sole_presented credential (cast_unsigned w32 AP_REQ_AUTHENTICATOR) wants_reply (authenticator_confounder (cipher_confounder_size credential.suite) words) x.authenticator y.authenticator a b
    (sole_authenticator_with client credential checksum moment words x.authenticator y.authenticator x.authenticates y.authenticates)
    x.presents y.presents

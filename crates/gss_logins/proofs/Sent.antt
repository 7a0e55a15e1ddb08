-- What an initiator sends is a request of the client.
use Rattle.std.proofs.Common.{◌≡◌, ℕ, ◌%◌, List, Some, refl, sym, subst, ◌∙◌, ap}
use Rattle.krb_messages.specs.declared.data_types.authenticator.AuthenticatorInner.{AuthenticatorInner}
use Rattle.krb_tickets.specs.Sealing.{encryption_key}
use Rattle.krb_client.specs.Authenticators.{authenticator_parts_of, authenticator_with}
use Rattle.krb_client.specs.Client.{ClientRecord, CredentialRecord}
use Rattle.krb_client.specs.Requests.{nonce_of}
use Rattle.krb_logins.proofs.Names.{component_texts, realm_text}
use Rattle.krb_authenticity.specs.Parties.{IsClient, IsOfClient, IsServiceSent, service_request_of}
use Rattle.gss_acceptor.specs.declared.checksum.InitialChecksum.{InitialChecksum}
use Rattle.gss_initiator.specs.Checksums.{initial_checksum, is_mutual}
use Rattle.gss_initiator.specs.Requests.{AsksContext, numbered, own_subkey}
use Rattle.gss_logins.proofs.Presented.{whole_own}

pub context_sent : (client : ClientRecord) (credential : CredentialRecord) (initial : InitialChecksum) (moment : ℕ) (words bytes : List ℕ) → IsClient client
    → (asks : AsksContext client credential initial moment words bytes) → IsServiceSent (service_request_of client credential (is_mutual initial.flags) moment words bytes asks.authenticator)
context_sent client credential initial moment words bytes named asks =
    let plain = asks.authenticates.authenticates in
    let own : AuthenticatorInner =
    numbered (authenticator_with (authenticator_parts_of client (moment % 1000000)) plain.second (Some (initial_checksum initial)) (Some (encryption_key credential.suite (own_subkey credential.suite words)))) (nonce_of words) in
    let same : asks.authenticator ≡ own = asks.authenticates.numbers ∙ ap (λ (a : AuthenticatorInner). numbered a (nonce_of words)) plain.is_made in
    let of_own : IsOfClient client moment own = record {
      realm = refl;
      name = refl;
      second = plain.of_moment;
      microseconds = refl;
      whole = whole_own client (moment % 1000000) plain.second (initial_checksum initial) (encryption_key credential.suite (own_subkey credential.suite words)) (nonce_of words)
          (realm_text client.realm named.realm) (component_texts client.components named.name);
    } in
    record { of_client = subst (λ (a : AuthenticatorInner). IsOfClient client moment a) (sym same) of_own; presents = asks.presents }

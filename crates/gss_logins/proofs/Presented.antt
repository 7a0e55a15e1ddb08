-- What the client writes presents its choice.
use Rattle.std.proofs.Common.{◌≡◌, ℕ, ◌%◌, true, Some, sym, ap, subst, ◌∙◌}
use Rattle.std.specs.List.{list_all}
use Rattle.asn1_der.specs.Tree.{IsWhole}
use Rattle.asn1_leaves.specs.CharSets.{is_general_string}
use Rattle.asn1_leaves.specs.declared.date.GeneralizedTime.{GeneralizedTime}
use Rattle.picky_asn1.specs.Bytes.{Bytes}
use Rattle.krb_messages.specs.declared.data_types.authenticator.AuthenticatorInner.{AuthenticatorInner}
use Rattle.krb_messages.specs.declared.data_types.checksum.Checksum.{Checksum}
use Rattle.krb_messages.specs.declared.data_types.encryption_key.EncryptionKey.{EncryptionKey}
use Rattle.krb_messages.specs.Messages.{authenticator_tree}
use Rattle.krb_ap_requests.specs.Presents.{Presents}
use Rattle.krb_client.specs.Authenticators.{authenticator_parts_of, authenticator_with}
use Rattle.krb_client.specs.Client.{ClientRecord}
use Rattle.krb_client.specs.Requests.{nonce_of}
use Rattle.krb_crypto.specs.Sealing.{seed_key_of}
use Rattle.krb_crypto.specs.Suites.{cipher_seed_size}
use Rattle.krb_messages.specs.RandomBytes.{subkey_seed}
use Rattle.krb_tickets.specs.Sealing.{encryption_key}
use Rattle.krb_logins.proofs.ChoicePresented.{presents_choice}
use Rattle.krb_logins.proofs.WholePresented.{tagged_text}
use Rattle.krb_logins.proofs.WholeRequests.{whole_texts}
use Rattle.gss_initiator.specs.Checksums.{initial_checksum, is_mutual}
use Rattle.gss_initiator.specs.Requests.{AsksContext, IsContextAuthenticator, numbered}
use Rattle.gss_logins.specs.GssLogins.{GssLogin, choice_of, confounder_of}
use Rattle.gss_logins.specs.Honest.{IsHonest}

-- an authenticator with a checksum, a subkey and a sequence number
pub whole_own : (client : ClientRecord) (micros : ℕ) (second : GeneralizedTime) (sum : Checksum) (key : EncryptionKey) (number : ℕ) → is_general_string client.realm ≡ true
    → list_all is_general_string client.components ≡ true
    → IsWhole (authenticator_tree (numbered (authenticator_with (authenticator_parts_of client micros) second (Some sum) (Some key)) number))
whole_own client micros second sum key number realm names =
    (((tt, tt), (tagged_text 161 client.realm realm, ((((tt, tt), ((whole_texts 27 client.components names, tt), tt)), tt), ((((tt, tt), ((tt, tt), tt)), tt), ((tt, tt), ((tt, tt), ((((tt, tt), ((tt, tt), tt)), tt), ((tt, tt), tt)))))))), tt)

-- the client's subkey
abbrev pub own_subkey : GssLogin → Bytes
own_subkey login = seed_key_of login.credential.suite (subkey_seed (cipher_seed_size login.credential.suite) login.words)

-- the client's authenticator of a second
abbrev pub own_authenticator : GssLogin → GeneralizedTime → AuthenticatorInner
own_authenticator login second =
    numbered (authenticator_with (authenticator_parts_of login.client (login.client_at % 1000000)) second (Some (initial_checksum login.initial))
    (Some (encryption_key login.credential.suite (own_subkey login)))) (nonce_of login.words)

pub is_own : (login : GssLogin) (authenticator : AuthenticatorInner) (x : IsContextAuthenticator login.client login.credential login.initial login.client_at login.words authenticator)
    → authenticator ≡ own_authenticator login x.authenticates.second
is_own login authenticator x = x.numbers ∙ ap (λ (plain : AuthenticatorInner). numbered plain (nonce_of login.words)) x.authenticates.is_made

module _ (login : GssLogin) (honest : IsHonest login) (request : Bytes) (asks : AsksContext login.client login.credential login.initial login.client_at login.words request) where
  whole_authenticator : IsWhole (authenticator_tree asks.authenticator)
  whole_authenticator =
      let second = asks.authenticates.authenticates.second in
      subst (λ (a : AuthenticatorInner). IsWhole (authenticator_tree a)) (sym (is_own login asks.authenticator asks.authenticates))
      (whole_own login.client (login.client_at % 1000000) second (initial_checksum login.initial) (encryption_key login.credential.suite (own_subkey login)) (nonce_of login.words)
      honest.asking.realm honest.asking.name)

  pub presents : Presents login.service.entry.key (choice_of login honest.ticket.part honest.ticket.confounder asks.authenticator) request
  presents =
      presents_choice login.credential (is_mutual login.initial.flags) honest.ticket.part asks.authenticator honest.ticket.confounder (confounder_of login) request login.service.entry.key
      honest.ticket.whole honest.ticket.sealed (ap (λ (k : EncryptionKey). k.key_value.0) honest.ticket.session) whole_authenticator asks.presents

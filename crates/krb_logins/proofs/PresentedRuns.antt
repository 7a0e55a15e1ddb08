-- What a client presents by a credential: a request whose ticket its service can open, with an authenticator under the
-- session's key.
use Rattle.std.proofs.Common.{◌≡◌, ℕ, Bool, true, None, Some, refl, ap, subst, ◌∙◌}
use Rattle.std.proofs.lemmas.Bool.{eq-eqb}
use Rattle.std.specs.Prelude.{pos}
use Rattle.asn1_leaves.specs.CharSets.{is_general_string}
use Rattle.asn1_der.specs.Tree.{IsWhole, der}
use Rattle.picky_asn1.specs.Bytes.{Bytes}
use Rattle.picky_asn1.specs.Numbers.{is_number}
use Rattle.krb_crypto.specs.Sealing.{IsSealedBy}
use Rattle.krb_crypto.specs.Suites.{cipher_number}
use Rattle.krb_messages.specs.declared.data_types.authenticator.AuthenticatorInner.{AuthenticatorInner}
use Rattle.krb_messages.specs.declared.data_types.enc_ticket_part.EncTicketPartInner.{EncTicketPartInner}
use Rattle.krb_messages.specs.declared.data_types.encrypted_data.EncryptedData.{EncryptedData}
use Rattle.krb_messages.specs.Messages.{IsApReq, ap_req_tree, authenticator_tree, enc_ticket_part_tree}
use Rattle.krb_realm_accounts.specs.Account.{AccountRecord}
use Rattle.krb_tickets.specs.Sealing.{Seals, encrypted_by}
use Rattle.krb_tickets.specs.Parts.{ticket_of, ticket_part}
use Rattle.krb_tickets.specs.Sealed.{IsSealedData, ticket_part_bytes}
use Rattle.krb_tickets.specs.Grant.{GrantRecord}
use Rattle.krb_ap_requests.specs.Entry.{EntryRecord}
use Rattle.krb_ap_requests.specs.Presents.{Choice, Presents, SealsTo, request_of}
use Rattle.krb_client.specs.Authenticators.{IsApRequest, ap_request_of, options_of}
use Rattle.krb_client.specs.Client.{CredentialRecord}
use Rattle.krb_client.specs.Messages.{ap_request_bytes, authenticator_bytes}
use Rattle.krb_logins.proofs.Names.{are_texts}
use Rattle.krb_logins.proofs.WholePresented.{whole_request, whole_ticket}

-- what is sealed under an account is sealed under the key of the service that the account is of
pub under_entry : (account : AccountRecord) (entry : EntryRecord) (usage : ℕ) (confounder plain : Bytes) (sealed : EncryptedData) → account.suite ≡ entry.suite → account.key ≡ entry.key → account.kvno ≡ entry.kvno
    → IsSealedData account usage confounder plain sealed → Seals entry.suite entry.key (Some entry.kvno) usage confounder plain sealed
under_entry account entry usage confounder plain sealed suite key kvno x =
    let numbered = subst (λ n. Seals account.suite account.key (Some n) usage confounder plain sealed) kvno x in
    let keyed = subst (λ k. Seals account.suite k (Some entry.kvno) usage confounder plain sealed) key numbered in
    subst (λ s. Seals s entry.key (Some entry.kvno) usage confounder plain sealed) suite keyed

-- a number is told as itself
pub own_number : (number : ℕ) → is_number number (pos number) ≡ true
own_number number = eq-eqb number number refl

-- what a client chooses with the ticket of a grant, where it wants a reply or none
abbrev pub choice_of : Bool → EntryRecord → GrantRecord → AuthenticatorInner → Bytes → Bytes → Choice
choice_of wanted entry grant authenticator part_confounder confounder = record {
  outer = record {
    pvno = pos 5;
    msg_type = pos 14;
    options = options_of wanted;
    tkt_vno = pos 5;
    realm = grant.realm;
    service = grant.service;
    part_etype = pos (cipher_number entry.suite);
    part_kvno = Some (pos entry.kvno);
    etype = pos (cipher_number grant.suite);
    kvno = None;
  };
  part = ticket_part grant;
  part_confounder = part_confounder;
  authenticator = authenticator;
  confounder = confounder;
}

-- the part of its ticket is sealed under the service's key
pub seals_part : (entry : EntryRecord) (grant : GrantRecord) (confounder : Bytes) (part : EncryptedData)
    (sealed : Seals entry.suite entry.key (Some entry.kvno) 2 confounder (ticket_part_bytes (ticket_part grant)) part) → IsWhole (enc_ticket_part_tree (ticket_part grant))
    → SealsTo {T = EncTicketPartInner} enc_ticket_part_tree (pos (cipher_number entry.suite)) entry.key 2 confounder (ticket_part grant) sealed.cipher
unfolding ticket_part_bytes
seals_part entry grant confounder part sealed whole =
    record { suite = entry.suite; numbered = own_number (cipher_number entry.suite); plain = ticket_part_bytes (ticket_part grant); writes = (whole, refl); sealed = sealed.seals }

module _ (usage : ℕ) (wanted : Bool) (entry : EntryRecord) (grant : GrantRecord) (credential : CredentialRecord) (authenticator : AuthenticatorInner) (part_confounder confounder bytes : Bytes) (part : EncryptedData)
    (sealed : Seals entry.suite entry.key (Some entry.kvno) 2 part_confounder (ticket_part_bytes (ticket_part grant)) part)
    (ticket : credential.ticket ≡ ticket_of grant part) (suite : credential.suite ≡ grant.suite) (key : credential.key ≡ grant.session)
    (asks : IsApRequest credential usage wanted authenticator confounder bytes) where
  -- the request, with its two ciphertexts
  pub written : is_general_string grant.realm ≡ true → are_texts grant.service.name_string.0 ≡ true
      → IsApReq bytes (request_of (choice_of wanted entry grant authenticator part_confounder confounder).outer sealed.cipher asks.sealed.cipher)
  unfolding ap_request_bytes ticket_of
  written realm names =
      let carried = ticket ∙ ap (ticket_of grant) sealed.told in
      let shown = asks.sealed.told ∙ ap (λ s. encrypted_by s None asks.sealed.cipher) suite in
      let ticket_whole = whole_ticket grant entry.suite entry.kvno sealed.cipher realm names in
      let whole = whole_request wanted (ticket_of grant (encrypted_by entry.suite (Some entry.kvno) sealed.cipher)) grant.suite asks.sealed.cipher ticket_whole in (
        whole,
        asks.encoding
            ∙ ap (λ t. der (ap_req_tree (ap_request_of wanted t asks.part))) carried
            ∙ ap (λ a. der (ap_req_tree (ap_request_of wanted (ticket_of grant (encrypted_by entry.suite (Some entry.kvno) sealed.cipher)) a))) shown,
      )

  pub seals_authenticator : IsWhole (authenticator_tree authenticator) → SealsTo {T = AuthenticatorInner} authenticator_tree (pos (cipher_number grant.suite)) grant.session usage confounder authenticator asks.sealed.cipher
  unfolding authenticator_bytes
  seals_authenticator whole = record {
    suite = credential.suite;
    numbered = subst (λ s. is_number (cipher_number credential.suite) (pos (cipher_number s)) ≡ true) suite (own_number (cipher_number credential.suite));
    plain = authenticator_bytes authenticator;
    writes = (whole, refl);
    sealed = subst (λ k. IsSealedBy credential.suite k usage confounder (authenticator_bytes authenticator) asks.sealed.cipher) key asks.sealed.seals;
  }

-- and shows to a service
pub presents : (wanted : Bool) (entry : EntryRecord) (grant : GrantRecord) (credential : CredentialRecord) (authenticator : AuthenticatorInner) (part_confounder confounder bytes : Bytes) (part : EncryptedData)
    → Seals entry.suite entry.key (Some entry.kvno) 2 part_confounder (ticket_part_bytes (ticket_part grant)) part
    → credential.ticket ≡ ticket_of grant part → credential.suite ≡ grant.suite → credential.key ≡ grant.session → IsApRequest credential 11 wanted authenticator confounder bytes
    → is_general_string grant.realm ≡ true → are_texts grant.service.name_string.0 ≡ true → IsWhole (enc_ticket_part_tree (ticket_part grant)) → IsWhole (authenticator_tree authenticator)
    → Presents entry.key (choice_of wanted entry grant authenticator part_confounder confounder) bytes
unfolding ticket_part
presents wanted entry grant credential authenticator part_confounder confounder bytes part sealed ticket suite key asks realm names whole_part whole = record {
  part_cipher = sealed.cipher;
  cipher = asks.sealed.cipher;
  writes = written 11 wanted entry grant credential authenticator part_confounder confounder bytes part sealed ticket suite key asks realm names;
  part = seals_part entry grant part_confounder part sealed whole_part;
  authenticator = seals_authenticator 11 wanted entry grant credential authenticator part_confounder confounder bytes part sealed ticket suite key asks whole;
}

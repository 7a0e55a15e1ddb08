-- What a client writes to a service presents its choice.
use Rattle.std.proofs.Common.{◌≡◌, ℕ, ◌%◌, Bool, None, Some, inl, inr, refl, sym, ap, subst, ◌∙◌}
use Rattle.asn1_der.specs.Tree.{IsWhole, der}
use Rattle.picky_asn1.specs.Bytes.{Bytes}
use Rattle.krb_crypto.specs.Sealing.{IsSealedBy}
use Rattle.krb_crypto.specs.Suites.{cipher_confounder_size, cipher_number}
use Rattle.krb_messages.specs.RandomBytes.{authenticator_confounder}
use Rattle.krb_messages.specs.declared.data_types.authenticator.AuthenticatorInner.{AuthenticatorInner}
use Rattle.krb_messages.specs.declared.data_types.enc_ticket_part.EncTicketPartInner.{EncTicketPartInner}
use Rattle.krb_messages.specs.declared.data_types.ticket.TicketInner.{TicketInner}
use Rattle.krb_messages.specs.declared.messages.ap_req.ApReqInner.{ApReqInner}
use Rattle.krb_messages.specs.declared.messages.kdc_rep.KdcRep.{KdcRep}
use Rattle.krb_messages.specs.Messages.{IsApReq, ap_req_tree, authenticator_tree, enc_ticket_part_tree}
use Rattle.krb_messages.specs.MessageTrees.{kdc_rep_inner_tree}
use Rattle.krb_tickets.specs.Sealing.{encrypted_by}
use Rattle.krb_ap_requests.specs.Presents.{Presents, SealsTo}
use Rattle.krb_ap_requests.proofs.Shown.{request-outer}
use Rattle.krb_client.specs.ApRequest.{presented_subkey}
use Rattle.krb_client.specs.Authenticators.{IsApRequest, ap_request_of}
use Rattle.krb_client.specs.Client.{ClientRecord, CredentialRecord}
use Rattle.krb_client.specs.Means.{MeansRecord}
use Rattle.krb_client.specs.Messages.{ap_request_bytes, authenticator_bytes}
use Rattle.krb_logins.specs.Choices.{AsksService, IsOfReply, choice_by}
use Rattle.krb_logins.proofs.Names.{component_texts, realm_text}
use Rattle.krb_logins.proofs.PresentedRuns.{own_number}
use Rattle.krb_logins.proofs.TakenParts.{first_taken_of, further_taken_of}
use Rattle.krb_logins.proofs.WholePresented.{ticket_tree, whole_authenticator, whole_request}

-- ---- a credential's ticket has an encoding

-- the ticket of a reply that has one
reply_ticket : (reply : KdcRep) → IsWhole (kdc_rep_inner_tree reply) → IsWhole (ticket_tree reply.ticket.0.0)
reply_ticket reply =
    elim reply.padata.0 as (λ o. IsWhole (kdc_rep_inner_tree (record reply { padata = record { 0 = o } })) → IsWhole (ticket_tree reply.ticket.0.0)) [
      | None ↦ (λ w. w.1.1.1.1.0.0.0)
      | Some entries ↦ (λ w. w.1.1.1.1.1.0.0.0)
    ]

ticket_whole : (credential : CredentialRecord) (reply : KdcRep) → credential.ticket ≡ reply.ticket.0.0 → IsWhole (kdc_rep_inner_tree reply) → IsWhole (ticket_tree credential.ticket)
ticket_whole credential reply same whole = subst (λ (t : TicketInner). IsWhole (ticket_tree t)) (sym same) (reply_ticket reply whole)

whole_ticket : (means : MeansRecord) (credential : CredentialRecord) → IsOfReply means credential → IsWhole (ticket_tree credential.ticket)
whole_ticket means credential (client, bytes, inl (asked, x)) =
    let own = first_taken_of client means asked bytes credential x in
    ticket_whole credential own.reply (ap (λ (c : CredentialRecord). c.ticket) own.taken.is) own.read.0.0
whole_ticket means credential (client, bytes, inr (asked, x)) =
    let own = further_taken_of client asked bytes credential x in
    ticket_whole credential own.reply (ap (λ (c : CredentialRecord). c.ticket) own.taken.is) own.read.0.0

-- ---- the request

-- a request by a credential whose ticket seals this part under a key, with a session key that is the credential's
pub presents_choice : (credential : CredentialRecord) (mutual_required : Bool) (part : EncTicketPartInner) (authenticator : AuthenticatorInner) (part_confounder confounder bytes key : Bytes)
    → IsWhole (ticket_tree credential.ticket)
    → SealsTo {T = EncTicketPartInner} enc_ticket_part_tree credential.ticket.enc_part.0.etype.0 key 2 part_confounder part credential.ticket.enc_part.0.cipher.0
    → part.key.0.key_value.0 ≡ credential.key → IsWhole (authenticator_tree authenticator) → IsApRequest credential 11 mutual_required authenticator confounder bytes
    → Presents key (choice_by credential mutual_required part part_confounder authenticator confounder) bytes
unfolding ap_request_bytes authenticator_bytes
presents_choice credential mutual_required part authenticator part_confounder confounder bytes key whole sealed session whole_own shown =
    let cipher : Bytes = shown.sealed.cipher in
    let request : ApReqInner = ap_request_of mutual_required credential.ticket (encrypted_by credential.suite None cipher) in
    let encoding : bytes ≡ der (ap_req_tree request) = shown.encoding ∙ ap (λ p. der (ap_req_tree (ap_request_of mutual_required credential.ticket p))) shown.sealed.told in
    let written : IsApReq bytes request = (whole_request mutual_required credential.ticket credential.suite cipher whole, encoding) in
    record {
      part_cipher = credential.ticket.enc_part.0.cipher.0;
      cipher = cipher;
      writes = subst (λ (r : ApReqInner). IsApReq bytes r) (sym (request-outer request)) written;
      part = sealed;
      authenticator = record {
        suite = credential.suite;
        numbered = own_number (cipher_number credential.suite);
        plain = authenticator_bytes authenticator;
        writes = (whole_own, refl);
        sealed = subst (λ k. IsSealedBy credential.suite k 11 confounder (authenticator_bytes authenticator) cipher) (sym session) shown.sealed.seals;
      };
    }

pub presents : (client : ClientRecord) (means : MeansRecord) (credential : CredentialRecord) (mutual_required with_subkey : Bool) (moment : ℕ) (words bytes key : Bytes)
    (by : AsksService client means credential mutual_required with_subkey moment words bytes key)
    → Presents key (choice_by credential mutual_required by.part by.part_confounder by.asks.authenticator (authenticator_confounder (cipher_confounder_size credential.suite) words)) bytes
presents client means credential mutual_required with_subkey moment words bytes key by =
    let told = by.asks.authenticates in
    let own = whole_authenticator client (moment % 1000000) told.second None (presented_subkey with_subkey credential.suite words) (realm_text client.realm by.realm) (component_texts client.components by.name) in
    presents_choice credential mutual_required by.part by.asks.authenticator by.part_confounder (authenticator_confounder (cipher_confounder_size credential.suite) words) bytes key
    (whole_ticket means credential by.of_reply) by.sealed by.session (subst (λ (a : AuthenticatorInner). IsWhole (authenticator_tree a)) (sym told.is_made) own) by.asks.presents

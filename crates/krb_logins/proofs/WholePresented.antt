-- What a client presents is whole where names are texts: the request, its ticket's part and its authenticator.
use Rattle.std.proofs.Common.{◌≡◌, ℕ, Bool, true, Option, None, Some}
use Rattle.asn1_leaves.specs.CharSets.{is_general_string}
use Rattle.asn1_leaves.specs.declared.date.GeneralizedTime.{GeneralizedTime}
use Rattle.asn1_der.specs.Tagged.{tagged_tree}
use Rattle.asn1_der.specs.Tree.{IsWhole, Tree, leaf, wrapped}
use Rattle.asn1_der.proofs.Spelling.{whole-wrapped}
use Rattle.picky_asn1.specs.Bytes.{Bytes}
use Rattle.krb_crypto.specs.declared.suite.CipherSuite.{CipherSuite}
use Rattle.krb_messages.specs.contracts.data_types.ticket.TicketInnerTagged.TheImpl as ticket_impl
use Rattle.krb_messages.specs.declared.data_types.checksum.Checksum.{Checksum}
use Rattle.krb_messages.specs.declared.data_types.encryption_key.EncryptionKey.{EncryptionKey}
use Rattle.krb_messages.specs.declared.data_types.ticket.TicketInner.{TicketInner}
use Rattle.krb_messages.specs.Messages.{ap_req_tree, authenticator_tree, enc_ticket_part_tree}
use Rattle.krb_tickets.specs.Sealing.{encrypted_by}
use Rattle.krb_tickets.specs.Parts.{ticket_of, ticket_part}
use Rattle.krb_tickets.specs.Grant.{GrantRecord}
use Rattle.krb_client.specs.Authenticators.{ap_request_of, authenticator_with, authenticator_parts_of}
use Rattle.krb_client.specs.Client.{ClientRecord}
use Rattle.krb_logins.proofs.Names.{are_texts}
use Rattle.krb_logins.proofs.WholeRequests.{whole_addresses, whole_text, whole_texts, whole_till}

-- a text under a tag
pub tagged_text : (tag : ℕ) (text : Bytes) → is_general_string text ≡ true → IsWhole (wrapped tag (leaf (is_general_string text) 27 text))
tagged_text tag text is = whole-wrapped tag (leaf (is_general_string text) 27 text) (whole_text 27 text is)

abbrev pub ticket_tree : TicketInner → Tree
ticket_tree = tagged_tree 48 ticket_impl.ghosts.row_tree ticket_impl.ghosts.row_of

-- the ticket of a grant
pub whole_ticket : (grant : GrantRecord) (suite : CipherSuite) (kvno : ℕ) (cipher : Bytes) → is_general_string grant.realm ≡ true → are_texts grant.service.name_string.0 ≡ true
    → IsWhole (ticket_tree (ticket_of grant (encrypted_by suite (Some kvno) cipher)))
unfolding ticket_of
whole_ticket grant suite kvno cipher realm names =
    ((tt, tt), (tagged_text 161 grant.realm realm, ((((tt, tt), ((whole_texts 27 grant.service.name_string.0 names, tt), tt)), tt), ((((tt, tt), ((tt, tt), ((tt, tt), tt))), tt), tt))))

-- a client's request with a ticket
pub whole_request : (wanted : Bool) (ticket : TicketInner) (suite : CipherSuite) (cipher : Bytes) → IsWhole (ticket_tree ticket)
    → IsWhole (ap_req_tree (ap_request_of wanted ticket (encrypted_by suite None cipher)))
whole_request wanted ticket suite cipher whole = (((tt, tt), ((tt, tt), ((tt, tt), (((whole, tt), tt), ((((tt, tt), ((tt, tt), tt)), tt), tt))))), tt)

-- a grant's ticket part
pub whole_part : (grant : GrantRecord) → is_general_string grant.realm ≡ true → are_texts grant.client.name_string.0 ≡ true → IsWhole (enc_ticket_part_tree (ticket_part grant))
unfolding ticket_part
whole_part grant realm names =
    (((tt, tt), ((((tt, tt), ((tt, tt), tt)), tt), (tagged_text 162 grant.realm realm, ((((tt, tt), ((whole_texts 27 grant.client.name_string.0 names, tt), tt)), tt), ((((tt, tt), ((tt, tt), tt)), tt), ((tt, tt), ((tt, tt), ((tt, tt), whole_till _ (whole_addresses 169 grant.addresses) grant.renew_till)))))))), tt)

-- a client's authenticator, with a checksum or a subkey, or without
pub whole_authenticator : (client : ClientRecord) (micros : ℕ) (second : GeneralizedTime) (checksum : Option Checksum) (subkey : Option EncryptionKey) → is_general_string client.realm ≡ true
    → are_texts client.components ≡ true → IsWhole (authenticator_tree (authenticator_with (authenticator_parts_of client micros) second checksum subkey))
whole_authenticator client micros second None None realm names =
    (((tt, tt), (tagged_text 161 client.realm realm, ((((tt, tt), ((whole_texts 27 client.components names, tt), tt)), tt), ((tt, tt), ((tt, tt), tt))))), tt)
whole_authenticator client micros second (Some checksum) None realm names =
    (((tt, tt), (tagged_text 161 client.realm realm, ((((tt, tt), ((whole_texts 27 client.components names, tt), tt)), tt), ((((tt, tt), ((tt, tt), tt)), tt), ((tt, tt), ((tt, tt), tt)))))), tt)
whole_authenticator client micros second None (Some key) realm names =
    (((tt, tt), (tagged_text 161 client.realm realm, ((((tt, tt), ((whole_texts 27 client.components names, tt), tt)), tt), ((tt, tt), ((tt, tt), ((((tt, tt), ((tt, tt), tt)), tt), tt)))))), tt)
whole_authenticator client micros second (Some checksum) (Some key) realm names =
    (((tt, tt), (tagged_text 161 client.realm realm, ((((tt, tt), ((whole_texts 27 client.components names, tt), tt)), tt), ((((tt, tt), ((tt, tt), tt)), tt), ((tt, tt), ((tt, tt), ((((tt, tt), ((tt, tt), tt)), tt), tt))))))), tt)

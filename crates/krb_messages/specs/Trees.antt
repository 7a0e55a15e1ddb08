-- The trees of what messages hold (RFC 4120, sections 5.2 to 5.5), each of one value; of what is under an application tag
-- the tree inside it, which Messages puts the tag on.
use Rattle.asn1_der.specs.Tree.{Tree}
use Rattle.asn1_der.specs.Tagged.{tagged_tree}
use Rattle.asn1_der.proofs.Spelling.{IsInjective}
use Rattle.asn1_der.proofs.Tagged.{tagged-injective}
use Rattle.krb_messages.specs.declared.data_types.authenticator.AuthenticatorInner.{AuthenticatorInner}
use Rattle.krb_messages.specs.declared.data_types.enc_ap_rep_part.EncApRepPartInner.{EncApRepPartInner}
use Rattle.krb_messages.specs.declared.data_types.enc_ticket_part.EncTicketPartInner.{EncTicketPartInner}
use Rattle.krb_messages.specs.declared.data_types.encrypted_data.EncryptedData.{EncryptedData}
use Rattle.krb_messages.specs.declared.data_types.etype_info2.EtypeInfo2Entry.{EtypeInfo2Entry}
use Rattle.krb_messages.specs.declared.data_types.pa_data.PaData.{PaData}
use Rattle.krb_messages.specs.declared.data_types.pa_enc_timestamp.PaEncTsEnc.{PaEncTsEnc}
use Rattle.krb_messages.specs.contracts.data_types.authenticator.AuthenticatorInnerTagged.TheImpl as authenticator_impl
use Rattle.krb_messages.specs.contracts.data_types.enc_ap_rep_part.EncApRepPartInnerTagged.TheImpl as enc_ap_rep_part_impl
use Rattle.krb_messages.specs.contracts.data_types.enc_ticket_part.EncTicketPartInnerTagged.TheImpl as enc_ticket_part_impl
use Rattle.krb_messages.specs.contracts.data_types.encrypted_data.EncryptedDataTagged.TheImpl as encrypted_data_impl
use Rattle.krb_messages.specs.contracts.data_types.etype_info2.EtypeInfo2EntryTagged.TheImpl as etype_info2_entry_impl
use Rattle.krb_messages.specs.contracts.data_types.pa_data.PaDataTagged.TheImpl as pa_data_impl
use Rattle.krb_messages.specs.contracts.data_types.pa_enc_timestamp.PaEncTsEncTagged.TheImpl as pa_enc_ts_enc_impl
use Rattle.asn1_der.specs.Octets.{sequence_octet}

abbrev pub authenticator_inner_tree : AuthenticatorInner → Tree
authenticator_inner_tree = tagged_tree sequence_octet authenticator_impl.ghosts.row_tree authenticator_impl.ghosts.row_of

pub authenticator_inner-injective : IsInjective authenticator_inner_tree
authenticator_inner-injective = tagged-injective 48 authenticator_impl.ghosts.row_tree authenticator_impl.ghosts.row_laws authenticator_impl.ghosts.row_of authenticator_impl.ghosts.one_row

abbrev pub enc_ap_rep_part_inner_tree : EncApRepPartInner → Tree
enc_ap_rep_part_inner_tree = tagged_tree sequence_octet enc_ap_rep_part_impl.ghosts.row_tree enc_ap_rep_part_impl.ghosts.row_of

pub enc_ap_rep_part_inner-injective : IsInjective enc_ap_rep_part_inner_tree
enc_ap_rep_part_inner-injective = tagged-injective 48 enc_ap_rep_part_impl.ghosts.row_tree enc_ap_rep_part_impl.ghosts.row_laws enc_ap_rep_part_impl.ghosts.row_of enc_ap_rep_part_impl.ghosts.one_row

abbrev pub enc_ticket_part_inner_tree : EncTicketPartInner → Tree
enc_ticket_part_inner_tree = tagged_tree sequence_octet enc_ticket_part_impl.ghosts.row_tree enc_ticket_part_impl.ghosts.row_of

pub enc_ticket_part_inner-injective : IsInjective enc_ticket_part_inner_tree
enc_ticket_part_inner-injective = tagged-injective 48 enc_ticket_part_impl.ghosts.row_tree enc_ticket_part_impl.ghosts.row_laws enc_ticket_part_impl.ghosts.row_of enc_ticket_part_impl.ghosts.one_row

abbrev pub encrypted_data_tree : EncryptedData → Tree
encrypted_data_tree = tagged_tree sequence_octet encrypted_data_impl.ghosts.row_tree encrypted_data_impl.ghosts.row_of

pub encrypted_data-injective : IsInjective encrypted_data_tree
encrypted_data-injective = tagged-injective 48 encrypted_data_impl.ghosts.row_tree encrypted_data_impl.ghosts.row_laws encrypted_data_impl.ghosts.row_of encrypted_data_impl.ghosts.one_row

abbrev pub etype_info2_entry_tree : EtypeInfo2Entry → Tree
etype_info2_entry_tree = tagged_tree sequence_octet etype_info2_entry_impl.ghosts.row_tree etype_info2_entry_impl.ghosts.row_of

pub etype_info2_entry-injective : IsInjective etype_info2_entry_tree
etype_info2_entry-injective = tagged-injective 48 etype_info2_entry_impl.ghosts.row_tree etype_info2_entry_impl.ghosts.row_laws etype_info2_entry_impl.ghosts.row_of etype_info2_entry_impl.ghosts.one_row

abbrev pub pa_data_tree : PaData → Tree
pa_data_tree = tagged_tree sequence_octet pa_data_impl.ghosts.row_tree pa_data_impl.ghosts.row_of

pub pa_data-injective : IsInjective pa_data_tree
pa_data-injective = tagged-injective 48 pa_data_impl.ghosts.row_tree pa_data_impl.ghosts.row_laws pa_data_impl.ghosts.row_of pa_data_impl.ghosts.one_row

abbrev pub pa_enc_ts_enc_tree : PaEncTsEnc → Tree
pa_enc_ts_enc_tree = tagged_tree sequence_octet pa_enc_ts_enc_impl.ghosts.row_tree pa_enc_ts_enc_impl.ghosts.row_of

pub pa_enc_ts_enc-injective : IsInjective pa_enc_ts_enc_tree
pa_enc_ts_enc-injective = tagged-injective 48 pa_enc_ts_enc_impl.ghosts.row_tree pa_enc_ts_enc_impl.ghosts.row_laws pa_enc_ts_enc_impl.ghosts.row_of pa_enc_ts_enc_impl.ghosts.one_row

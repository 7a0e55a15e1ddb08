-- The trees of messages inside their application tags (RFC 4120, sections 5.4 to 5.9), each of one value.
use Rattle.asn1_der.specs.Tree.{Tree}
use Rattle.asn1_der.specs.Tagged.{tagged_tree}
use Rattle.asn1_der.proofs.Spelling.{IsInjective}
use Rattle.asn1_der.proofs.Tagged.{tagged-injective}
use Rattle.krb_messages.specs.declared.messages.ap_rep.ApRepInner.{ApRepInner}
use Rattle.krb_messages.specs.declared.messages.ap_req.ApReqInner.{ApReqInner}
use Rattle.krb_messages.specs.declared.messages.enc_kdc_rep_part.EncKdcRepPart.{EncKdcRepPart}
use Rattle.krb_messages.specs.declared.messages.kdc_rep.KdcRep.{KdcRep}
use Rattle.krb_messages.specs.declared.messages.kdc_req.KdcReq.{KdcReq}
use Rattle.krb_messages.specs.declared.messages.kdc_req_body.KdcReqBody.{KdcReqBody}
use Rattle.krb_messages.specs.declared.messages.krb_error.KrbErrorInner.{KrbErrorInner}
use Rattle.krb_messages.specs.contracts.messages.ap_rep.ApRepInnerTagged.TheImpl as ap_rep_impl
use Rattle.krb_messages.specs.contracts.messages.ap_req.ApReqInnerTagged.TheImpl as ap_req_impl
use Rattle.krb_messages.specs.contracts.messages.enc_kdc_rep_part.EncKdcRepPartTagged.TheImpl as enc_kdc_rep_part_impl
use Rattle.krb_messages.specs.contracts.messages.kdc_rep.KdcRepTagged.TheImpl as kdc_rep_impl
use Rattle.krb_messages.specs.contracts.messages.kdc_req.KdcReqTagged.TheImpl as kdc_req_impl
use Rattle.krb_messages.specs.contracts.messages.kdc_req_body.KdcReqBodyTagged.TheImpl as kdc_req_body_impl
use Rattle.krb_messages.specs.contracts.messages.krb_error.KrbErrorInnerTagged.TheImpl as krb_error_impl
use Rattle.asn1_der.specs.Octets.{sequence_octet}

abbrev pub ap_rep_inner_tree : ApRepInner → Tree
ap_rep_inner_tree = tagged_tree sequence_octet ap_rep_impl.ghosts.row_tree ap_rep_impl.ghosts.row_of

pub ap_rep_inner-injective : IsInjective ap_rep_inner_tree
ap_rep_inner-injective = tagged-injective 48 ap_rep_impl.ghosts.row_tree ap_rep_impl.ghosts.row_laws ap_rep_impl.ghosts.row_of ap_rep_impl.ghosts.one_row

abbrev pub ap_req_inner_tree : ApReqInner → Tree
ap_req_inner_tree = tagged_tree sequence_octet ap_req_impl.ghosts.row_tree ap_req_impl.ghosts.row_of

pub ap_req_inner-injective : IsInjective ap_req_inner_tree
ap_req_inner-injective = tagged-injective 48 ap_req_impl.ghosts.row_tree ap_req_impl.ghosts.row_laws ap_req_impl.ghosts.row_of ap_req_impl.ghosts.one_row

abbrev pub enc_kdc_rep_part_inner_tree : EncKdcRepPart → Tree
enc_kdc_rep_part_inner_tree = tagged_tree sequence_octet enc_kdc_rep_part_impl.ghosts.row_tree enc_kdc_rep_part_impl.ghosts.row_of

pub enc_kdc_rep_part_inner-injective : IsInjective enc_kdc_rep_part_inner_tree
enc_kdc_rep_part_inner-injective = tagged-injective 48 enc_kdc_rep_part_impl.ghosts.row_tree enc_kdc_rep_part_impl.ghosts.row_laws enc_kdc_rep_part_impl.ghosts.row_of enc_kdc_rep_part_impl.ghosts.one_row

abbrev pub kdc_rep_inner_tree : KdcRep → Tree
kdc_rep_inner_tree = tagged_tree sequence_octet kdc_rep_impl.ghosts.row_tree kdc_rep_impl.ghosts.row_of

pub kdc_rep_inner-injective : IsInjective kdc_rep_inner_tree
kdc_rep_inner-injective = tagged-injective 48 kdc_rep_impl.ghosts.row_tree kdc_rep_impl.ghosts.row_laws kdc_rep_impl.ghosts.row_of kdc_rep_impl.ghosts.one_row

abbrev pub kdc_req_inner_tree : KdcReq → Tree
kdc_req_inner_tree = tagged_tree sequence_octet kdc_req_impl.ghosts.row_tree kdc_req_impl.ghosts.row_of

pub kdc_req_inner-injective : IsInjective kdc_req_inner_tree
kdc_req_inner-injective = tagged-injective 48 kdc_req_impl.ghosts.row_tree kdc_req_impl.ghosts.row_laws kdc_req_impl.ghosts.row_of kdc_req_impl.ghosts.one_row

abbrev pub kdc_req_body_tree : KdcReqBody → Tree
kdc_req_body_tree = tagged_tree sequence_octet kdc_req_body_impl.ghosts.row_tree kdc_req_body_impl.ghosts.row_of

pub kdc_req_body-injective : IsInjective kdc_req_body_tree
kdc_req_body-injective = tagged-injective 48 kdc_req_body_impl.ghosts.row_tree kdc_req_body_impl.ghosts.row_laws kdc_req_body_impl.ghosts.row_of kdc_req_body_impl.ghosts.one_row

abbrev pub krb_error_inner_tree : KrbErrorInner → Tree
krb_error_inner_tree = tagged_tree sequence_octet krb_error_impl.ghosts.row_tree krb_error_impl.ghosts.row_of

pub krb_error_inner-injective : IsInjective krb_error_inner_tree
krb_error_inner-injective = tagged-injective 48 krb_error_impl.ghosts.row_tree krb_error_impl.ghosts.row_laws krb_error_impl.ghosts.row_of krb_error_impl.ghosts.one_row

-- The KRB-ERROR of a realm (RFC 4120, section 5.9.1).
use Rattle.std.specs.Prelude.{Option, None, pos}
use Rattle.std.specs.Option.{option_map}
use Rattle.krb_time.specs.Units.{Micros}
use Rattle.asn1_der.specs.Tree.{der}
use Rattle.asn1_leaves.specs.declared.date.GeneralizedTime.{GeneralizedTime}
use Rattle.picky_asn1.specs.Bytes.{Bytes}
use Rattle.krb_constants.specs.declared.types.TheConstants.{KERBEROS_VERSION, KRB_ERROR_MSG_TYPE, NT_SRV_INST}
use Rattle.krb_messages.specs.declared.messages.krb_error.KrbErrorInner.{KrbErrorInner}
use Rattle.krb_messages.specs.declared.data_types.principal_name.PrincipalName.{PrincipalName}
use Rattle.krb_messages.specs.Refusals.{Code}
use Rattle.krb_messages.specs.Messages.{krb_error_tree}
use Rattle.krb_messages.specs.TicketGranting.{krbtgt_of}

-- the name of the realm's ticket-granting service, of name type NT-SRV-INST (RFC 4120, sections 6.2 and 7.3)
abbrev pub ticket_service : Bytes → PrincipalName
ticket_service realm = record {
  name_type = record { 0 = pos NT_SRV_INST };
  name_string = record { 0 = krbtgt_of realm };
}

-- the KRB-ERROR with this code, stime, susec and sname; of the optional fields it has `e-data` alone
abbrev pub error_of : Bytes → GeneralizedTime → Micros → PrincipalName → Code → Option Bytes → KrbErrorInner
error_of realm time microseconds service code e_data = record {
  pvno = record { 0 = pos KERBEROS_VERSION };
  msg_type = record { 0 = pos KRB_ERROR_MSG_TYPE };
  ctime = record { 0 = None };
  cusec = record { 0 = None };
  stime = record { 0 = record { 0 = time } };
  susec = record { 0 = pos microseconds };
  error_code = record { 0 = code };
  crealm = record { 0 = None };
  cname = record { 0 = None };
  realm = record { 0 = realm };
  sname = record { 0 = service };
  e_text = record { 0 = None };
  e_data = record { 0 = option_map (λ bytes. record { 0 = bytes }) e_data };
}

-- the DER encoding of that KRB-ERROR
abbrev pub error_bytes : Bytes → GeneralizedTime → Micros → PrincipalName → Code → Option Bytes → Bytes
error_bytes realm time microseconds service code e_data = der (krb_error_tree (error_of realm time microseconds service code e_data))

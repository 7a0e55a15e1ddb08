-- Contexts that are established.
use Rattle.std.specs.Prelude.{List, Option}
use Rattle.asn1_leaves.specs.declared.date.GeneralizedTime.{GeneralizedTime}
use Rattle.picky_asn1.specs.BitString.{Bits}
use Rattle.picky_asn1.specs.Bytes.{Bytes}
use Rattle.krb_messages.specs.declared.data_types.authorization_data.AuthorizationDataInner.{AuthorizationDataInner}
use Rattle.krb_messages.specs.declared.data_types.principal_name.PrincipalName.{PrincipalName}
use Rattle.gss_contexts.specs.Contexts.{ContextRecord}
use Rattle.gss_acceptor.specs.declared.checksum.ContextFlags.{ContextFlags}
use Rattle.gss_acceptor.specs.declared.delegation.Delegated.{Delegated}

-- a context: the client by its realm and its name, the ticket's times, flags and authorization data, the flags and bindings of the
-- checksum, what the client delegates, the acceptor's end, and the token to send if there is one
pub record EstablishedRecord : Type 0 where
  pub realm : Bytes
  pub client : PrincipalName
  pub authtime : GeneralizedTime
  pub starttime : GeneralizedTime
  pub endtime : GeneralizedTime
  pub ticket_flags : Bits
  pub authorization_data : Option (List AuthorizationDataInner)
  pub bindings : Bytes
  pub flags : ContextFlags
  pub delegated : Option Delegated
  pub context : ContextRecord
  pub reply : Option Bytes

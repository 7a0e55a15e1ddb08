-- What clients are, and what they are granted (RFC 4120, sections 3.1, 3.2).
use Rattle.std.specs.Prelude.{not, ◌&&◌, List, Option, Result, Ok, Err, if◌then◌else◌}
use Rattle.asn1_leaves.specs.declared.date.GeneralizedTime.{GeneralizedTime}
use Rattle.picky_asn1.specs.BitString.{Bits}
use Rattle.picky_asn1.specs.Bytes.{Bytes}
use Rattle.krb_crypto.specs.declared.suite.CipherSuite.{CipherSuite}
use Rattle.krb_realm_accounts.specs.Names.{are_components, is_realm_name}
use Rattle.krb_messages.specs.declared.data_types.principal_name.PrincipalName.{PrincipalName}
use Rattle.krb_messages.specs.declared.data_types.ticket.TicketInner.{TicketInner}
use Rattle.krb_client.specs.declared.refusal.AskRefusal.{AskRefusal}
use Rattle.krb_client.specs.declared.refusal.AskRefusal.TheVariants.{BadName}

-- a client: its realm, the components of its name, and the suite that it asks for
pub record ClientRecord : Type 0 where
  pub realm : Bytes
  pub components : List Bytes
  pub suite : CipherSuite

-- the client of this name, or why there is none
abbrev pub client_named : Bytes → List Bytes → CipherSuite → Result ClientRecord AskRefusal
client_named realm components suite =
    if not (is_realm_name realm && are_components components) then Err BadName
    else Ok (record { realm = realm; components = components; suite = suite })

-- what a client is granted: a ticket, the session key with its suite, the service that the ticket is for, and the ticket's times and
-- flags, as the KDC's reply has them (RFC 4120, section 5.4.2)
pub record CredentialRecord : Type 0 where
  pub ticket : TicketInner
  pub suite : CipherSuite
  pub key : Bytes
  pub realm : Bytes
  pub service : PrincipalName
  pub authtime : GeneralizedTime
  pub starttime : GeneralizedTime
  pub endtime : GeneralizedTime
  pub renew_till : Option GeneralizedTime
  pub flags : Bits

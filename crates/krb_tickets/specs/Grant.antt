-- What a ticket is granted with, in an AS or a TGS exchange (RFC 4120, sections 3.1.3, 3.3.3).
use Rattle.std.specs.Prelude.{ℤ, List, Option}
use Rattle.std.specs.Option.{option_copied}
use Rattle.asn1_leaves.specs.declared.date.GeneralizedTime.{GeneralizedTime}
use Rattle.picky_asn1.specs.Bytes.{Bytes}
use Rattle.krb_crypto.specs.declared.suite.CipherSuite.{CipherSuite}
use Rattle.krb_messages.specs.declared.data_types.host_address.HostAddress.{HostAddress}
use Rattle.krb_messages.specs.declared.data_types.principal_name.PrincipalName.{PrincipalName}
use Rattle.krb_tickets.specs.declared.grant.Grant as held
use Rattle.krb_tickets.specs.declared.grant.TicketFlags.{TicketFlags}

-- what a ticket is granted with: the session key and its suite, the realm of client and service, their names, the ticket's flags and
-- times, of which a renewable ticket has a renew-till, the addresses that it has, and the request's nonce
pub record GrantRecord : Type 0 where
  pub suite : CipherSuite
  pub session : Bytes
  pub realm : Bytes
  pub client : PrincipalName
  pub service : PrincipalName
  pub flags : TicketFlags
  pub auth_time : GeneralizedTime
  pub starttime : GeneralizedTime
  pub endtime : GeneralizedTime
  pub renew_till : Option GeneralizedTime
  pub addresses : Option (List HostAddress)
  pub nonce : ℤ

-- the grant of the code, as definitions see it
abbrev pub grant_of : held.Grant → GrantRecord
grant_of this = record {
  suite = this.suite;
  session = this.session;
  realm = this.realm.now;
  client = this.client.now;
  service = this.service.now;
  flags = this.flags;
  auth_time = this.auth_time;
  starttime = this.starttime;
  endtime = this.endtime;
  renew_till = this.renew_till;
  addresses = option_copied this.addresses;
  nonce = this.nonce.now;
}

-- What a key is derived for (RFC 8636, section 6).
use Rattle.std.specs.Prelude.{Option}
use Rattle.std.specs.Option.{option_copied}
use Rattle.picky_asn1.specs.Bytes.{Bytes}
use Rattle.krb_messages.specs.declared.data_types.principal_name.PrincipalName.{PrincipalName}
use Rattle.pkinit_messages.specs.declared.agility.context.KdfContext as held

-- the realm, the `cname` and the `sname` of an AS-REQ; the AS-REQ, and the PA-PK-AS-REP that answers it
pub record ContextRecord : Type 0 where
  pub realm : Bytes
  pub client : Option PrincipalName
  pub service : Option PrincipalName
  pub as_req : Bytes
  pub pk_as_rep : Bytes

-- what a key is derived for, as the program's value holds it
abbrev pub context_of : held.KdfContext → ContextRecord
context_of context = record {
  realm = context.realm.now;
  client = option_copied context.client;
  service = option_copied context.service;
  as_req = context.as_req.now;
  pk_as_rep = context.pk_as_rep.now;
}

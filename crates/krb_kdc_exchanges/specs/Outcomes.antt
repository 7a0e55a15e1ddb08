-- The outcome of a reply: the ticket that it grants, or the code of a KRB-ERROR.
use Rattle.std.specs.Prelude.{◌≡◌, Option, Result, Ok, Err}
use Rattle.asn1_leaves.specs.declared.date.GeneralizedTime.{GeneralizedTime}
use Rattle.picky_asn1.specs.Bytes.{Bytes}
use Rattle.krb_messages.specs.Refusals.{Code}
use Rattle.krb_messages.specs.declared.data_types.principal_name.PrincipalName.{PrincipalName}
use Rattle.krb_time.specs.Units.{Micros}
use Rattle.krb_kdc_exchanges.specs.Errors.{error_bytes}
use Rattle.krb_kdc_exchanges.specs.Granting.{IsGrantedTicket}
use Rattle.krb_kdc_exchanges.specs.declared.granted.GrantedTicket.{GrantedTicket}

-- the bytes are a KRB-ERROR with this code (RFC 4120, section 5.9.1)
pub record IsErrorOf (bytes : Bytes) (code : Code) : Type 0 where
  pub realm : Bytes
  pub time : GeneralizedTime
  pub microseconds : Micros
  pub service : PrincipalName
  pub e_data : Option Bytes
  pub encoding : bytes ≡ error_bytes realm time microseconds service code e_data

-- the outcome is that of the reply with these bytes
abbrev pub IsOutcome : Bytes → Result GrantedTicket Code → Type 0
IsOutcome bytes (Ok ticket) = IsGrantedTicket bytes ticket
IsOutcome bytes (Err code) = IsErrorOf bytes code

-- The rows by which a realm judges requests by certificate (RFC 4556, section 3.2.2), as the AS exchange's table takes them in.
use Rattle.std.specs.Prelude.{Bool, Result}
use Rattle.picky_asn1.specs.Bytes.{Bytes}
use Rattle.decision_tables.specs.Some.{HasSome}
use Rattle.decision_tables.specs.Tables.{Table}
use Rattle.krb_messages.specs.Refusals.{Code}
use Rattle.krb_kdc_exchanges.specs.PkinitCalls.{AgreedRecord, PkinitCallRecord}

-- whether METHOD-DATA offers PA-PK-AS-REQ; the table that judges its data; and that this table has an outcome
pub record PkinitRows : Type 1 where
  pub offered : Bool
  pub judges : PkinitCallRecord → Bytes → Table (Result AgreedRecord Code)
  pub some : (call : PkinitCallRecord) (padata : Bytes) → HasSome (judges call padata).gives

-- The rows of the AS exchange's table by which a realm judges requests by certificate (RFC 4556, section 3.2.2).
use Rattle.std.specs.Option.{is_some}
use Rattle.x509_keys.specs.KeyFunctions.{KeysRecord}
use Rattle.krb_kdc_exchanges.specs.Rows.{PkinitRows}
use Rattle.pkinit_validation.specs.HasOutcomes.{has_pkinit}
use Rattle.pkinit_validation.specs.PkinitTable.{pkinit_table}
use Rattle.pkinit_validation.specs.Trust.{TrustRecord}

-- The rows of a realm with this trust and these keys. The realm offers PA-PK-AS-REQ in its e-data if it has an anchor (RFC 4120, section
-- 5.9.1). Test: `no preauthentication, b`.
abbrev pub pkinit_rows : TrustRecord → KeysRecord → PkinitRows
pkinit_rows trust keys = record {
  offered = is_some trust.anchor;
  judges = pkinit_table keys trust;
  some = has_pkinit keys trust;
}

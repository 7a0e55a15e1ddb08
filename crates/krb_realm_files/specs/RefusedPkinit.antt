-- The rows of a realm that judges no request by certificate.
use Rattle.std.specs.Prelude.{Bool, Err, refl}
use Rattle.krb_constants.specs.declared.error_codes.TheConstants.{KDC_ERR_PADATA_TYPE_NOSUPP}
use Rattle.decision_tables.specs.Tables.{done}
use Rattle.krb_kdc_exchanges.specs.Rows.{PkinitRows}

-- Whether METHOD-DATA offers PA-PK-AS-REQ. A request by certificate is refused, as by a realm without an anchor (RFC 4120, section 7.5.9).
abbrev pub refused_rows : Bool → PkinitRows
refused_rows is_offered = record {
  offered = is_offered;
  judges = λ call padata. done (Err KDC_ERR_PADATA_TYPE_NOSUPP);
  some = λ call padata none. none (Err KDC_ERR_PADATA_TYPE_NOSUPP) refl;
}

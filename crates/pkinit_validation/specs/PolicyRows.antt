-- The rows of the AS exchange's table by which a realm with a policy judges requests by certificate (RFC 4556, section 3.2.2).
use Rattle.std.specs.Prelude.{◌≡◌, Option, None, Some, refl}
use Rattle.std.specs.Option.{is_some}
use Rattle.x509_keys.specs.KeyFunctions.{KeysRecord}
use Rattle.krb_kdc_exchanges.specs.Rows.{PkinitRows}
use Rattle.pkinit_validation.specs.PkinitRows.{pkinit_rows}
use Rattle.pkinit_validation.specs.Trust.{TrustRecord}
use Rattle.pkinit_validation.specs.GeneralTable.{general_table}
use Rattle.pkinit_validation.specs.HasGeneral.{has_general}
use Rattle.pkinit_validation.specs.declared.policies.policy.GeneralPolicy.{GeneralPolicy}

-- the rows of a realm with a policy
abbrev pub general_rows : GeneralPolicy → TrustRecord → KeysRecord → PkinitRows
general_rows policy trust keys = record {
  offered = is_some trust.anchor;
  judges = general_table keys policy trust;
  some = has_general keys policy trust;
}

-- Without a policy the rows are those of RFC 4556 alone.
abbrev pub policy_rows : Option GeneralPolicy → TrustRecord → KeysRecord → PkinitRows
policy_rows None trust keys = pkinit_rows trust keys
policy_rows (Some policy) trust keys = general_rows policy trust keys

-- PA-PK-AS-REQ is offered by the anchor alone
pub same_offer : (policy : Option GeneralPolicy) (trust : TrustRecord) (keys : KeysRecord) → (policy_rows policy trust keys).offered ≡ is_some trust.anchor
same_offer None trust keys = refl
same_offer (Some policy) trust keys = refl

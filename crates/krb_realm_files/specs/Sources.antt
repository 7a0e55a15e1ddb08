-- What the realm of a file judges requests by certificate by, given for the AS request that was read (RFC 4556, section 3.2.1).
use Rattle.std.specs.Prelude.{◌≡◌, Option, None, Some, true, false}
use Rattle.picky_asn1.specs.Bytes.{Bytes}
use Rattle.krb_constants.specs.declared.padata_types.TheConstants.{PA_PK_AS_REQ}
use Rattle.krb_messages.specs.Padata.{padata_in}
use Rattle.krb_realm_accounts.specs.declared.policy.Policy.{Policy}
use Rattle.krb_kdc.specs.Sources.{IsByCertificate}
use Rattle.krb_kdc_exchanges.specs.Rows.{PkinitRows}
use Rattle.krb_messages.specs.declared.messages.kdc_req.KdcReq.{KdcReq}
use Rattle.krb_messages.specs.Padata.{first_of}
use Rattle.krb_realm_files.specs.Means.{AreMeansIn, general_policy, rows_of}
use Rattle.krb_realm_files.specs.RefusedPkinit.{refused_rows}
use Rattle.krb_realm_files.specs.declared.file_pkinit.FilePkinit.{FilePkinit}
use Rattle.krb_realm_files.specs.declared.file_pkinit.FilePkinit.TheVariants as file

-- The rows by which requests by certificate are judged.
abbrev pub file_rows : FilePkinit → PkinitRows
file_rows (file.Refused own) = refused_rows own.is_offered
file_rows (file.Means means policy) = rows_of policy means

-- Logins by certificate are answered by these octets: a request by certificate by their means and the realm's policy, and to any other they
-- are only offered.
abbrev pub IsGivenBy : Policy → Bytes → KdcReq → FilePkinit → Type 0
IsGivenBy policy octets request (file.Refused own) = (own.is_offered ≡ true) × (first_of PA_PK_AS_REQ (padata_in request) ≡ None)
IsGivenBy policy octets request (file.Means means own) = IsByCertificate request × AreMeansIn octets means × (own ≡ general_policy policy)

-- They are answered by the octets that the realm has, and by none if it has none.
abbrev pub IsGiven : Policy → Option Bytes → KdcReq → FilePkinit → Type 0
IsGiven policy None request given = given ≡ file.Refused (record { is_offered = false })
IsGiven policy (Some octets) request given = IsGivenBy policy octets request given

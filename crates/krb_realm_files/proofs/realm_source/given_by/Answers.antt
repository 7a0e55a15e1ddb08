use Rattle.std.proofs.Common.{Some, refl, subst, sym, ◌∙◌}
use Rattle.krb_constants.specs.declared.padata_types.TheConstants.{PA_PK_AS_REQ}
use Rattle.krb_kdc.specs.Faults.{MayFail}
use Rattle.krb_kdc.specs.Sources.{IsByCertificate}
use Rattle.krb_kdc.specs.declared.fault.LookupFault.{LookupFault}
use Rattle.krb_messages.specs.Padata.{padata_in}
use Rattle.krb_messages.specs.Padata.{first_of}
use Rattle.krb_realm_files.specs.Lacks.{FailsMeans}
use Rattle.krb_realm_files.proofs.Sources.{unusable}
use Rattle.krb_realm_files.proofs.Unasked.{none_first}
use Rattle.krb_realm_files.proofs.realm_source.given_by.Goals as goal

pub returns-then-not-is_by_certificate : goal.returns-then-not-is_by_certificate
returns-then-not-is_by_certificate c =
    (refl, none_first (first_of PA_PK_AS_REQ (padata_in c.args.request.now)) c.is_by_certificate.result c.is_by_certificate.ensures c.if-not-is_by_certificate.true)

pub returns-in-Ok : goal.returns-in-Ok
returns-in-Ok c = (sym c.is_by_certificate.ensures ∙ c.if-not-is_by_certificate.false, c.in-Ok.ensures, c.general_policy.ensures)

pub returns-in-Err : goal.returns-in-Err
returns-in-Err c =
    subst (λ (f : LookupFault). MayFail (λ fault. IsByCertificate c.args.request.now × FailsMeans (Some c.args.octets.now) fault) f) (sym c.lookup_fault_of.ensures)
    (unusable c.args.octets.now c.args.request.now c.in-Err.fault (sym c.is_by_certificate.ensures ∙ c.if-not-is_by_certificate.false) c.in-Err.ensures)

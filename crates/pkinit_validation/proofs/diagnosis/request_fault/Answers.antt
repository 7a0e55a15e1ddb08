use Rattle.std.proofs.Common.{List, ℕ, Some, IfOk, inr, refl, subst}
use Rattle.decision_tables.specs.Tables.{done}
use Rattle.pkinit_validation.specs.AuthPacks.{IsPaPkAsReq, sole_pa_pk_as_req}
use Rattle.pkinit_validation.specs.Diagnoses.{signed_fault}
use Rattle.pkinit_validation.specs.declared.fault.PkAsReqFault.TheVariants as fault
use Rattle.pkinit_validation.proofs.Told.{if_asked}
use Rattle.pkinit_validation.proofs.diagnosis.request_fault.Goals as goal

pub returns-in_default : goal.returns-in_default
returns-in_default c =
    let none = rw c.in_default.is at c.in_ok-request.ensures in
    inr (none, refl)

pub returns : goal.returns
returns c =
    let padata = c.args.padata.now in
    let body = c.args.body.now in
    let found : IsPaPkAsReq padata c.in-Some.request = rw c.in-Some.is at c.in_ok-request.ensures in
    if_asked (IsPaPkAsReq padata) (sole_pa_pk_as_req padata) (done (Some fault.PaPkAsReq)) (λ request. signed_fault body request.signed_auth_pack.0)
    c.in-Some.request c.signed_fault-fault.result found
    (subst (λ (bytes : List ℕ). IfOk c.signed_fault-fault.result (signed_fault body bytes).gives) c.as_bytes.ensures c.signed_fault-fault.ensures)

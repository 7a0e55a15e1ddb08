use Rattle.pkinit_validation.specs.Expected.{expected_of}
use Rattle.pkinit_clients.proofs.AgileSignerLemmas.{refused_as, signed}
use Rattle.pkinit_clients.proofs.agility.signer.check_general_by.Goals as goal

pub returns-in-Ok : goal.returns-in-Ok
returns-in-Ok g c =
    signed (g.K.KeyFunctions.functions c.args.keys.now) (expected_of c.args.expected.now) c.args.content.now c.certificates.result.now c.certificates.ensures c.in-Ok.ensures

pub returns-in-Err : goal.returns-in-Err
returns-in-Err g c =
    refused_as (g.K.KeyFunctions.functions c.args.keys.now) (expected_of c.args.expected.now) c.args.content.now c.certificates.result.now c.certificates.ensures
    c.in-Err.fault _ c.from.ensures c.in-Err.ensures

use Rattle.krb_pac.proofs.VerifiedLaws.{verifies-found, verifies-refused}
use Rattle.krb_pac.proofs.verified.verified_elements.Goals as goal

pub returns-in_err-octets : goal.returns-in_err-octets
returns-in_err-octets c =
    verifies-refused c.args.elements.now c.args.key.now c.args.client.now c.args.authtime _ _ c.from_residual.ensures.1 c.in_err-octets.ensures

pub returns : goal.returns
returns c =
    verifies-found c.args.elements.now c.args.key.now c.args.client.now c.args.authtime c.in_ok-octets.octets.items _ c.in_ok-octets.ensures c.judge.ensures

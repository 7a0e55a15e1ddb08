use Rattle.std.proofs.Common.{◌≡◌, true, false, refl, sym, ap, ◌∙◌}
use Rattle.pkinit_validation.specs.Expected.{expected_of}
use Rattle.pkinit_validation.specs.GeneralTrust.{takes_digest}
use Rattle.pkinit_validation.proofs.PolicySignerLemmas.{refused_general_as, signed_general}
use Rattle.pkinit_validation.proofs.policies.signer.check_general_signer.Goals as goal

pub returns-then-not-takes_digest : goal.returns-then-not-takes_digest
returns-then-not-takes_digest g c =
    let other : takes_digest c.args.policy c.args.content.now.algorithm ≡ false =
    ap (takes_digest c.args.policy) (sym c.digest_algorithm.ensures) ∙ sym c.takes_digest.ensures ∙ c.if-not-takes_digest.true in
    rw other refl

pub returns-in-Ok : goal.returns-in-Ok
returns-in-Ok g c =
    let takes : takes_digest c.args.policy c.args.content.now.algorithm ≡ true =
    ap (takes_digest c.args.policy) (sym c.digest_algorithm.ensures) ∙ sym c.takes_digest.ensures ∙ c.if-not-takes_digest.false in
    signed_general (g.K.KeyFunctions.functions c.args.keys.now) c.args.policy (expected_of c.args.expected.now) c.args.content.now takes _ c.certificates.ensures c.in-Ok.ensures

pub returns-in-Err : goal.returns-in-Err
returns-in-Err g c =
    let takes : takes_digest c.args.policy c.args.content.now.algorithm ≡ true =
    ap (takes_digest c.args.policy) (sym c.digest_algorithm.ensures) ∙ sym c.takes_digest.ensures ∙ c.if-not-takes_digest.false in
    refused_general_as (g.K.KeyFunctions.functions c.args.keys.now) c.args.policy (expected_of c.args.expected.now) c.args.content.now takes _ c.certificates.ensures
    c.in-Err.fault _ c.from.ensures c.in-Err.ensures

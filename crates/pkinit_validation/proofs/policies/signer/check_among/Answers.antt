use Rattle.std.proofs.Common.{sym}
use Rattle.pkinit_validation.specs.Expected.{expected_of}
use Rattle.pkinit_validation.specs.GeneralTrust.{trusted_among}
use Rattle.pkinit_validation.proofs.PolicySignerLemmas.{found_at, none_of_them, passed_at, told_outcome}
use Rattle.pkinit_validation.proofs.policies.signer.check_among.Goals as goal

pub loop-raw-init : goal.loop-raw-init
loop-raw-init g c = λ outcome given. given

pub loop-raw-preserved : goal.loop-raw-preserved
loop-raw-preserved g c =
    let none = rw (c.as_bytes.ensures, c.in-None.is) at c.in_ok-judged.ensures in
    passed_at (g.K.KeyFunctions.functions c.args.keys.now) (expected_of c.args.expected.now) c.args.content.now c.args.certificates.now c.loop-raw.raw-index c.raw-item.result
    c.loop-raw-test.true (sym c.raw-item.is) none c.loop-raw.invariant

pub returns-in-Some : goal.returns-in-Some
returns-in-Some g c =
    let keys = g.K.KeyFunctions.functions c.args.keys.now in
    let judged = rw (c.as_bytes.ensures, c.in-Some.is) at c.in_ok-judged.ensures in
    told_outcome (trusted_among keys (expected_of c.args.expected.now) c.args.content.now c.args.certificates.now).gives c.in-Some.outcome
    (found_at keys (expected_of c.args.expected.now) c.args.content.now c.args.certificates.now c.loop-raw.raw-index c.raw-item.result c.in-Some.outcome
    c.loop-raw-test.true (sym c.raw-item.is) judged c.loop-raw.invariant)
    _ c.told.ensures

pub returns : goal.returns
returns g c =
    none_of_them (g.K.KeyFunctions.functions c.args.keys.now) (expected_of c.args.expected.now) c.args.content.now c.args.certificates.now c.loop-raw.raw-index
    c.loop-raw-test.false c.loop-raw.invariant

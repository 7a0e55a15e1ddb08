use Rattle.pkinit_validation.specs.Certificates.{IsCertificate, sole_certificate}
use Rattle.pkinit_validation.specs.Expected.{expected_of}
use Rattle.pkinit_validation.proofs.PolicySignerLemmas.{judged_told}
use Rattle.pkinit_validation.proofs.policies.signer.judged_by.Goals as goal

pub returns-in_default : goal.returns-in_default
returns-in_default g c =
    let none = rw c.in_default.is at c.in_ok-certificate.ensures in
    λ read named. none read.certificate named.is.count named.is.spelled

pub returns : goal.returns
returns g c =
    let found = rw c.in-Some.is at c.in_ok-certificate.ensures in
    let is : IsCertificate c.args.bytes.now (record { certificate = c.in-Some.certificate; signed = c.in-Some.signed.now }) =
    record { count = found.0.0; spelled = found.0.1; part = found.1 } in
    judged_told (g.K.KeyFunctions.functions c.args.keys.now) (expected_of c.args.expected.now) c.args.content.now c.args.bytes.now c.in-Some.certificate c.in-Some.signed.now is
    c.judged_as-judged.result c.judged_as-judged.ensures
    (λ read other. sole_certificate c.args.bytes.now read (record { certificate = c.in-Some.certificate; signed = c.in-Some.signed.now }) other is)

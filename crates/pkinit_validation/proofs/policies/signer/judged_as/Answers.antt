use Rattle.std.proofs.Common.{◌≡◌, true, sym, ap, ◌∙◌}
use Rattle.std.proofs.lemmas.Bool.{false≢true}
use Rattle.picky_asn1_der.specs.Raw.{Raw}
use Rattle.cms_signed_data.specs.Identifiers.{names}
use Rattle.pkinit_validation.specs.Expected.{expected_of}
use Rattle.pkinit_validation.specs.GeneralTrust.{by_certificate, sid_of}
use Rattle.pkinit_validation.proofs.PolicySignerLemmas.{outcome_back}
use Rattle.pkinit_validation.proofs.policies.signer.judged_as.Goals as goal

pub returns-then-not-named : goal.returns-then-not-named
returns-then-not-named g c = λ named.
    let shown : names c.sid.result.now c.args.certificate.now ≡ true = ap (λ (sid : Raw). names sid c.args.certificate.now) c.sid.ensures ∙ named in
    absurd (false≢true (sym c.if-not-named.true ∙ c.in_ok-named.ensures ∙ shown))

pub returns : goal.returns
returns g c =
    let named : names (sid_of c.args.content.now) c.args.certificate.now ≡ true =
    ap (λ (sid : Raw). names sid c.args.certificate.now) (sym c.sid.ensures) ∙ sym c.in_ok-named.ensures ∙ c.if-not-named.false in (
      named,
      outcome_back
          (by_certificate (g.K.KeyFunctions.functions c.args.keys.now) (expected_of c.args.expected.now) c.args.content.now
          (record { certificate = c.args.certificate.now; signed = c.args.signed.now })).gives
          c.in_ok-outcome.outcome c.check_certificate-answer.result c.check_certificate-answer.ensures c.in_ok-outcome.ensures,
    )

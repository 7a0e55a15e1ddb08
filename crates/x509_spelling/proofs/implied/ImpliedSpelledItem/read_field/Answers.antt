use Rattle.std.proofs.Common.{◌≡◌, true, sym, ◌∙◌}
use Rattle.asn1_codec.proofs.Chain.{at-exit}
use Rattle.x509_spelling.specs.Spellings.{begins}
use Rattle.x509_spelling.proofs.Refusals.{implied_refused}
use Rattle.x509_spelling.proofs.implied.ImpliedSpelledItem.read_field.Goals as goal

pub returns-in_err-read : goal.returns-in_err-read
returns-in_err-read g c =
    let t = g.H.Spelled in
    let there : begins t.begun c.args.bytes.now ≡ true = sym c.is_next.ensures ∙ c.if-not-is_next.false in
    at-exit _ _ _ _ c.from_residual-in_err-read.ensures.1
    (implied_refused t.begun t.spells c.args.bytes.now there t.written g.H.HasDefault.is_default_value g.H.Deviates.deviation (λ a. a.0) _ c.in_err-read.ensures)

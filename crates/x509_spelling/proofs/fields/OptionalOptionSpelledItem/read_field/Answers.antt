use Rattle.std.proofs.Common.{◌≡◌, true, sym, ◌∙◌}
use Rattle.asn1_codec.proofs.Chain.{at-exit}
use Rattle.x509_spelling.specs.Spellings.{begins}
use Rattle.x509_spelling.proofs.Refusals.{optional_refused}
use Rattle.x509_spelling.proofs.fields.OptionalOptionSpelledItem.read_field.Goals as goal

pub returns-in_err-read : goal.returns-in_err-read
returns-in_err-read g c =
    let t = g.H.Spelled in
    let there : begins t.begun c.args.bytes.now ≡ true = sym c.is_next.ensures ∙ c.if-not-is_next.false in
    at-exit _ _ _ _ c.from_residual.ensures.1 (optional_refused t.begun t.spells c.args.bytes.now there (λ a. a.0) _ c.in_err-read.ensures)

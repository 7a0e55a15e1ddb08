use Rattle.std.proofs.Common.{sym, ◌∙◌}
use Rattle.gss_contexts.proofs.Ends.{ended, ne-false, ne-true, not_ended}
use Rattle.gss_contexts.proofs.reading.message_len.Goals as goal

pub returns-then-ne : goal.returns-then-ne
returns-then-ne c = λ m f counted is. not_ended c.args.text.now c.args.header.now m f c.requires is (ne-true _ (sym c.ne.ensures ∙ c.if-ne.true))

pub returns : goal.returns
returns c =
    let e = ended c.args.text.now c.args.header.now c.from-behind.result c.if-text-behind.false (ne-false _ (sym c.ne.ensures ∙ c.if-ne.false)) in
    (e.0, e.1 ∙ c.from-behind.ensures, e.2)

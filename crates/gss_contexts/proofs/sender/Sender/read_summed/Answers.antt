use Rattle.std.proofs.Common.{◌≡◌, ◌++◌, length, ap, sym, ◌∙◌, rules, inr, w32, SFits}
use Rattle.std.proofs.lemmas.Int.{to_z-of_z}
use Rattle.byte_streams.specs.Numbers.{be16_at}
use Rattle.gss_contexts.specs.Contexts.{peer_of}
use Rattle.gss_contexts.specs.Tokens.{seal_usage}
use Rattle.gss_contexts.proofs.Ends.{ne-true}
use Rattle.gss_contexts.proofs.Opened.{summed_differs}
use Rattle.gss_contexts.proofs.sender.Sender.read_summed.Goals as goal

pub returns-then-ne-clause-refused : goal.returns-then-ne-clause-refused
returns-then-ne-clause-refused c =
    let fits : SFits w32 c.seal_usage-usage.result = search rules in
    let sum = simp to_z-of_z at c.in_ok-sum.ensures in
    let whole : c.split_at.result.0.now ++ c.split_at.result.1.now ≡ c.args.text.now = search rules in
    let counted : length c.split_at.result.1.now ≡ be16_at 4 c.args.token.now = search rules in
    let differs = ne-true _ (sym c.ne.ensures ∙ c.if-ne.true) in
    inr (λ d. summed_differs (peer_of c.args.self.now) c.args.token.now c.args.text.now c.split_at.result.0.now c.split_at.result.1.now
    c.header_without_counts-header.result c.as_slice.result.now c.in_ok-sum.sum.items _ _ whole counted
    (c.seal_usage-usage.ensures ∙ ap seal_usage c.other.ensures) c.header_without_counts-header.ensures sum c.as_slice.ensures.value differs)

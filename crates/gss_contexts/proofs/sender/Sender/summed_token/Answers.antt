use Rattle.std.proofs.Common.{List, ℕ, ◌++◌, ◌≤◌, length, ap, sym, subst, ◌∙◌, arith, rules, w32, SFits}
use Rattle.std.proofs.lemmas.Bool.{false≢true}
use Rattle.std.proofs.lemmas.Int.{to_z-of_z}
use Rattle.std.proofs.lemmas.Result.{IfOk-weaker}
use Rattle.gss_contexts.specs.Tokens.{WritesWrap}
use Rattle.gss_contexts.specs.declared.side.Protection.TheVariants.{Checksum}
use Rattle.gss_contexts.proofs.Sums.{sum_sized}
use Rattle.gss_contexts.proofs.Written.{wrap_written, summed_carries}
use Rattle.gss_contexts.proofs.sender.Sender.summed_token.Goals as goal

pub overflow_cast-len : goal.overflow_cast-len
overflow_cast-len c =
    let few : length c.in_ok-sum.sum.items ≤ 24 = sum_sized c.args.self.now.key _ _ c.in_ok-sum.sum.items c.in_ok-sum.ensures in
    search rules

pub returns : goal.returns
returns c = λ d.
    let fits : SFits w32 c.seal_usage.result = search rules in
    let s = c.args.self.now in
    let header = c.wrap_header-header.result in
    let sum = c.in_ok-sum.sum.items in
    let text = c.in_ok-text.text.items in
    let size = c.wrap_header-header.ensures.size in
    let laid = c.wrap_header-header.ensures.laid in
    let few = sum_sized s.key _ _ sum c.in_ok-sum.ensures in
    let carries = summed_carries s c.args.number c.flags-flags.result c.len.result c.args.message.now header text size laid _ c.wrap_header-bare.result sum
    c.wrap_header-bare.ensures.size c.wrap_header-bare.ensures.laid c.seal_usage.ensures (simp to_z-of_z at c.in_ok-sum.ensures) (search rules)
    (c.in_ok-text.ensures ∙ ap (λ (l : List ℕ). c.args.message.now ++ l) c.deref.ensures.value) in
    let made = wrap_written s c.args.number c.flags-flags.result c.len.result c.args.message.now header text size laid Checksum d c.flags-flags.ensures.marked c.flags-flags.ensures.clear (omega arith) (λ e. absurd (false≢true e)) carries in
    IfOk-weaker c.joined-2.result _ _
    (λ token is. subst (WritesWrap s c.args.number Checksum d c.args.message.now) (sym (is ∙ ap (λ (l : List ℕ). header ++ l) c.deref-2.ensures.value)) made)
    c.joined-2.ensures

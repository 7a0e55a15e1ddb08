use Rattle.std.proofs.Common.{List, ℕ, ◌++◌, ap, refl, sym, subst, ◌∙◌, arith, rules, w32, SFits}
use Rattle.std.proofs.lemmas.Int.{to_z-of_z}
use Rattle.std.proofs.lemmas.Result.{IfOk-weaker}
use Rattle.gss_contexts.specs.Tokens.{WritesWrap}
use Rattle.gss_contexts.specs.declared.side.Protection.TheVariants.{Sealed}
use Rattle.gss_contexts.proofs.Written.{wrap_written, sealed_carries}
use Rattle.gss_contexts.proofs.sender.Sender.sealed_token.Goals as goal

pub returns : goal.returns
returns c =
    let fits : SFits w32 c.seal_usage-usage.result = search rules in
    let s = c.args.self.now in
    let header = c.wrap_header-header.result in
    let text = c.in_ok-text.text.items in
    let size = c.wrap_header-header.ensures.size in
    let laid = c.wrap_header-header.ensures.laid in
    let carries = sealed_carries s c.args.number c.flags.result 0 c.args.message.now header text size laid _ c.args.confounder.now _ c.seal_usage-usage.ensures
    (c.deref.ensures.value ∙ c.in_ok-plain.ensures) refl (simp to_z-of_z at c.in_ok-text.ensures) in
    let made = wrap_written s c.args.number c.flags.result 0 c.args.message.now header text size laid Sealed c.args.confounder.now c.flags.ensures.marked c.flags.ensures.clear (omega arith) (λ _. refl) carries in
    IfOk-weaker c.joined-2.result _ _
    (λ token is. subst (WritesWrap s c.args.number Sealed c.args.confounder.now c.args.message.now) (sym (is ∙ ap (λ (l : List ℕ). header ++ l) c.deref-2.ensures.value)) made)
    c.joined-2.ensures

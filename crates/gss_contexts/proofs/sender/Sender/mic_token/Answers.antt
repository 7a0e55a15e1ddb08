use Rattle.std.proofs.Common.{List, ℕ, ◌++◌, ap, sym, subst, ◌∙◌, w32, SFits, rules}
use Rattle.std.proofs.lemmas.Int.{to_z-of_z}
use Rattle.std.proofs.lemmas.Result.{IfOk-weaker}
use Rattle.gss_contexts.specs.Tokens.{WritesMic}
use Rattle.gss_contexts.proofs.Written.{mic_written}
use Rattle.gss_contexts.proofs.sender.Sender.mic_token.Goals as goal

pub returns : goal.returns
returns c =
    let fits : SFits w32 c.sign_usage.result = search rules in
    let sum = simp to_z-of_z at c.in_ok-sum.ensures in
    let made = mic_written c.args.self.now c.args.number c.flags.result _ c.args.message.now c.mic_header-header.result c.in_ok-sum.sum.items
    c.flags.ensures.marked c.flags.ensures.clear c.mic_header-header.ensures.laid c.mic_header-header.ensures.size c.sign_usage.ensures sum in
    IfOk-weaker c.joined.result _ _
    (λ token is. subst (WritesMic c.args.self.now c.args.number c.args.message.now) (sym (is ∙ ap (λ (l : List ℕ). c.mic_header-header.result ++ l) c.deref.ensures.value)) made)
    c.joined.ensures

use Rattle.std.proofs.Common.{ap, ◌∙◌, rules, w32, SFits, inr, sym, subst}
use Rattle.std.proofs.lemmas.Int.{to_z-of_z}
use Rattle.std.proofs.lemmas.Result.{IfOk-weaker, IfErr-weaker}
use Rattle.gss_contexts.specs.Contexts.{peer_of}
use Rattle.gss_contexts.specs.Judging.{IsUnread}
use Rattle.gss_contexts.specs.Tokens.{seal_usage}
use Rattle.gss_contexts.specs.declared.side.Protection.TheVariants.{Sealed}
use Rattle.gss_contexts.proofs.Opened.{sealed_is, sealed_only, sealed_other, sealed_none}
use Rattle.gss_contexts.proofs.sender.Sender.read_sealed.Goals as goal

pub returns-in-Ok-clause-read : goal.returns-in-Ok-clause-read
returns-in-Ok-clause-read c =
    let fits : SFits w32 c.seal_usage-usage.result = search rules in
    let opened = simp to_z-of_z at c.in-Ok.ensures.opened in
    IfOk-weaker c.message_before.result _ _
    (λ m ends. sealed_is (peer_of c.args.self.now) c.requires.newer c.args.token.now c.args.text.now _ c.in-Ok.plain.items m.items
    (c.seal_usage-usage.ensures ∙ ap seal_usage c.other.ensures) opened ends)
    c.message_before.ensures.read

pub returns-in-Ok-clause-only : goal.returns-in-Ok-clause-only
returns-in-Ok-clause-only c =
    let fits : SFits w32 c.seal_usage-usage.result = search rules in
    let opened = simp to_z-of_z at c.in-Ok.ensures.opened in
    IfOk-weaker c.message_before.result _ _
    (λ m ends. sealed_only (peer_of c.args.self.now) c.requires.newer c.args.token.now c.args.text.now _ c.in-Ok.plain.items m.items
    (c.seal_usage-usage.ensures ∙ ap seal_usage c.other.ensures) opened ends)
    c.message_before.ensures.read

pub returns-in-Ok-clause-refused : goal.returns-in-Ok-clause-refused
returns-in-Ok-clause-refused c =
    let fits : SFits w32 c.seal_usage-usage.result = search rules in
    let opened = simp to_z-of_z at c.in-Ok.ensures.opened in
    IfErr-weaker c.message_before.result _ _
    (λ e other. inr (subst (λ r. IsUnread (peer_of c.args.self.now) Sealed c.args.token.now c.args.text.now r) (sym other.0)
    (sealed_other (peer_of c.args.self.now) c.requires.newer c.args.token.now c.args.text.now _ c.in-Ok.plain.items
    (c.seal_usage-usage.ensures ∙ ap seal_usage c.other.ensures) opened other.1)))
    c.message_before.ensures.refused

pub returns-in-Err-clause-refused : goal.returns-in-Err-clause-refused
returns-in-Err-clause-refused c =
    let fits : SFits w32 c.seal_usage-usage.result = search rules in
    rw c.refusal_of.ensures (sealed_none (peer_of c.args.self.now) c.args.token.now c.args.text.now _ c.in-Err.fault
    (c.seal_usage-usage.ensures ∙ ap seal_usage c.other.ensures) (simp to_z-of_z at c.in-Err.ensures.refused))

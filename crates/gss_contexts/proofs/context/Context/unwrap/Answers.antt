use Rattle.std.proofs.Common.{◌+◌, ap, sym, ◌∙◌}
use Rattle.gss_contexts.specs.Contexts.{ContextRecord, peer}
use Rattle.gss_contexts.proofs.Judged.{takes_wrap}
use Rattle.gss_contexts.proofs.context.Context.unwrap.Goals as goal

pub returns-clause-taken : goal.returns-clause-taken
returns-clause-taken c =
    takes_wrap c.args.self.now _ _ c.protection_of-protection.result c.in_ok-message.message.items c.args.token.now c.in_ok-number.number
    (ap peer c.self.view_is) c.protection_of-protection.ensures (λ i. (c.type_inv.token i).fits) (sym c.is_wrap.ensures.test ∙ c.in_ok-number.ensures.is_token)
    c.in_ok-number.ensures.peers c.in_ok-message.ensures.read c.in_ok-message.ensures.only
    (ap (λ (r : ContextRecord). record r { taking = c.in_ok-number.number + 1 }) c.self.view_is)

use Rattle.std.proofs.Common.{subst}
use Rattle.gss_contexts.specs.Contexts.{ContextRecord, sender_of}
use Rattle.gss_contexts.specs.Tokens.{WritesMic}
use Rattle.gss_contexts.proofs.context.Context.get_mic.Goals as goal

pub returns-clause-made : goal.returns-clause-made
returns-clause-made c =
    subst (λ (r : ContextRecord). WritesMic (sender_of r) r.sending c.args.message.now c.in_ok-token.token.items) c.self.view_is c.in_ok-token.ensures

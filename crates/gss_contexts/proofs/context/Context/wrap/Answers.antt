use Rattle.std.proofs.Common.{subst, take}
use Rattle.gss_contexts.specs.Contexts.{ContextRecord, sender_of}
use Rattle.gss_contexts.specs.Tokens.{WritesWrap}
use Rattle.gss_contexts.proofs.context.Context.wrap.Goals as goal

pub returns-clause-made : goal.returns-clause-made
returns-clause-made c =
    subst (λ (r : ContextRecord). WritesWrap (sender_of r) r.sending c.args.protection (take 16 c.args.words.now) c.args.message.now c.in_ok-token.token.items)
    c.self.view_is c.in_ok-token.ensures

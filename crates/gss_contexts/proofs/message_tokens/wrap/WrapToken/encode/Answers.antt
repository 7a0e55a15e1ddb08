use Rattle.std.proofs.Common.{List, ℕ, ◌++◌, sym, subst}
use Rattle.gss_contexts.specs.MessageTokens.{wrap_of, IsWrapToken}
use Rattle.gss_contexts.proofs.MessageTokenLaws.{wrap-of_header}
use Rattle.gss_contexts.proofs.message_tokens.wrap.WrapToken.encode.Goals as goal

pub returns-clause-written : goal.returns-clause-written
returns-clause-written g c =
    let token = wrap_of c.args.self.now in
    let same = c.deref.ensures.value in (
      c.header.result ++ c.deref.result.now,
      subst (λ (l : List ℕ). IsWrapToken token (c.header.result ++ l)) (sym same)
          (wrap-of_header token c.header.result c.header.ensures.size c.header.ensures.laid),
      c.write_token.ensures.written,
    )

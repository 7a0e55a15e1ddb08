use Rattle.std.proofs.Common.{List, ℕ, ◌++◌, sym, subst}
use Rattle.gss_contexts.specs.MessageTokens.{mic_of, IsMicToken}
use Rattle.gss_contexts.proofs.MessageTokenLaws.{mic-of_header}
use Rattle.gss_contexts.proofs.message_tokens.mic.MicToken.encode.Goals as goal

pub returns-clause-written : goal.returns-clause-written
returns-clause-written g c =
    let token = mic_of c.args.self.now in
    let same = c.deref.ensures.value in (
      c.header.result ++ c.deref.result.now,
      subst (λ (l : List ℕ). IsMicToken token (c.header.result ++ l)) (sym same)
          (mic-of_header token c.header.result c.header.ensures.size c.header.ensures.laid),
      c.write_token.ensures.written,
    )

use Rattle.gss_contexts.proofs.message_tokens.integrity.LsapTokenInfoIntegrity.encode.Goals as goal

pub returns-in-Ok-clause-written : goal.returns-in-Ok-clause-written
returns-in-Ok-clause-written g c = (c.bytes.result, c.bytes.ensures, c.in-Ok.ensures.written)

pub returns-in-Err-clause-written : goal.returns-in-Err-clause-written
returns-in-Err-clause-written g c = (c.bytes.result, c.bytes.ensures, c.in-Err.ensures.written)

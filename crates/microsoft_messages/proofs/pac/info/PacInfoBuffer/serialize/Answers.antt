use Rattle.microsoft_messages.proofs.pac.info.PacInfoBuffer.serialize.Goals as goal

pub returns-in-Ok-clause-written : goal.returns-in-Ok-clause-written
returns-in-Ok-clause-written g c = (c.bytes.result, c.bytes.ensures, c.in-Ok.ensures.ok)

pub returns-in-Err-clause-written : goal.returns-in-Err-clause-written
returns-in-Err-clause-written g c = (c.bytes.result, c.bytes.ensures, c.in-Err.ensures.front)

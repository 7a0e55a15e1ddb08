use Rattle.krb_kdc.proofs.NoRequest.{neither, no_request}
use Rattle.krb_kdc.proofs.begins.begins_request.Goals as goal

pub returns-else-octet-clause-none : goal.returns-else-octet-clause-none
returns-else-octet-clause-none c = λ none.
    no_request c.args.message.now (rw (← c.in-Some.ensures.value) (neither c.in-Some.field-0.now c.if-octet.false none))

pub returns-in-None-clause-none : goal.returns-in-None-clause-none
returns-in-None-clause-none c = λ none. no_request c.args.message.now (rw (← c.in-None.ensures.value) none)

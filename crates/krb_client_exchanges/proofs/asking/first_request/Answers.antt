use Rattle.krb_client_exchanges.proofs.asking.first_request.Goals as goal

pub returns-clause-asks : goal.returns-clause-asks
returns-clause-asks c = rw c.plain.ensures at c.first_request_with.ensures.asks

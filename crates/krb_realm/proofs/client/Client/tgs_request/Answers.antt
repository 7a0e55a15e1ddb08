use Rattle.krb_realm.proofs.client.Client.tgs_request.Goals as goal

pub returns-clause-only : goal.returns-clause-only
returns-clause-only c = rw c.asking.ensures at c.tgs_request.ensures.only

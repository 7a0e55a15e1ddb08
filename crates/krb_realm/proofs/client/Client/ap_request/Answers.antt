use Rattle.krb_realm.proofs.client.Client.ap_request.Goals as goal

pub returns-clause-only : goal.returns-clause-only
returns-clause-only c = rw c.asking.ensures at c.ap_request.ensures.only

use Rattle.krb_client_exchanges.proofs.asking.request_bytes.Goals as goal

pub returns : goal.returns
returns c = rw c.in_ok-request.ensures at c.in_ok-bytes.ensures

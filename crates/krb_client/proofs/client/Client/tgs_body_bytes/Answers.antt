use Rattle.krb_client.proofs.client.Client.tgs_body_bytes.Goals as goal

pub returns : goal.returns
returns c = rw c.in_ok-body.ensures at c.in_ok-bytes.ensures

use Rattle.krb_kdc_exchanges.proofs.EncryptedTimestamp.{timestamp_opened}
use Rattle.krb_kdc_exchanges.proofs.encrypted_timestamp.open_encrypted_timestamp.Goals as goal

pub returns : goal.returns
returns c =
    timestamp_opened c.args.account.now c.args.bytes.now c.in-Some.sealed c.open_sealed-timestamp.result
    (rw c.in-Some.is at c.in_ok-read.ensures) (rw c.key.ensures at c.open_sealed-timestamp.ensures)

use Rattle.krb_client_exchanges.proofs.Grantings.{default_key}
use Rattle.krb_client_exchanges.proofs.laws.default_salt_alone.Goals as goal

pub returns : goal.returns
returns c = default_key

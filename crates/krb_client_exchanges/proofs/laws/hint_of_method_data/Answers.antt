use Rattle.krb_client_exchanges.proofs.MethodDataLemmas.{hint_of_account}
use Rattle.krb_client_exchanges.proofs.laws.hint_of_method_data.Goals as goal

pub returns : goal.returns
returns c = hint_of_account

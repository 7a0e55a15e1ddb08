use Rattle.krb_password_changes.proofs.Cuts.{result-read}
use Rattle.krb_password_changes.proofs.messages.result_data.read_result.Goals as goal

pub returns : goal.returns
returns c = result-read c.u16_be.result c.args.octets.now c.split_at.result.1.now c.u16_be.ensures.stands c.split_at.ensures.back

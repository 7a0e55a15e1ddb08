use Rattle.krb_crypto.proofs.ZeroPadding.{padding_is, missing_zeros}
use Rattle.krb_crypto.proofs.padding.is_zero_padding.Goals as goal

pub returns : goal.returns
returns c = padding_is c.args.text.now c.args.rest.now _ c.same_bytes.result (missing_zeros c.args.text.now) c.same_bytes.ensures

use Rattle.std.proofs.Common.{◌≡◌, subst}
use Rattle.std.specs.Prelude.{IfOk}
use Rattle.krb_messages.specs.declared.messages.kdc_req.KdcReq.{KdcReq}
use Rattle.krb_kdc_exchanges.specs.AgreedKeys.{as_req_bytes}
use Rattle.krb_kdc_exchanges.proofs.as_exchange.judge.as_req_bytes.Goals as goal

pub returns : goal.returns
unfolding as_req_bytes
returns c = subst (λ (request : KdcReq). IfOk c.tagged_encoding.result (λ bytes. bytes.items ≡ as_req_bytes request)) c.new.ensures c.tagged_encoding.ensures

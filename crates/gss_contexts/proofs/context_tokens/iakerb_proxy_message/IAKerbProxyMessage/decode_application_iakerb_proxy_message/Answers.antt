use Rattle.asn1_codec.proofs.Chain.{at-exit}
use Rattle.gss_contexts.specs.contracts.context_tokens.iakerb_header.IAKerbHeaderFromDer.TheImpl as header_reading
use Rattle.gss_contexts.proofs.MessageLaws.{no-proxied, no-header, no-body}
use Rattle.gss_contexts.proofs.context_tokens.iakerb_proxy_message.IAKerbProxyMessage.decode_application_iakerb_proxy_message.Goals as goal

pub returns-in_err-message : goal.returns-in_err-message
returns-in_err-message g c =
    at-exit _ _ _ _ c.from_residual.ensures.1 (no-proxied g.T.FromDer.reads c.args.bytes.now c.in_err-message.field-0.0 c.in_err-message.ensures)

pub returns-in_err-header : goal.returns-in_err-header
returns-in_err-header g c =
    at-exit _ _ _ _ c.from_residual-in_err-header.ensures.1
    (no-header g.T.FromDer.reads c.args.bytes.now c.in_ok-message.message.now c.in_err-header.field-0.0 c.in_ok-message.ensures c.in_err-header.ensures)

pub returns-in_err-krb_msg : goal.returns-in_err-krb_msg
returns-in_err-krb_msg g c =
    at-exit _ _ _ _ c.from_residual-in_err-krb_msg.ensures.1
    (no-body g.T.FromDer.reads c.args.bytes.now c.in_ok-message.message.now c.in_ok-header.header c.in_ok-header.body.now c.in_err-krb_msg.field-0.0
    header_reading.ghosts.one_value c.in_ok-message.ensures c.in_ok-header.ensures c.in_err-krb_msg.ensures)

pub returns : goal.returns
returns g c = (c.in_ok-message.message.now, c.in_ok-header.body.now, c.in_ok-message.ensures, c.in_ok-header.ensures, c.in_ok-krb_msg.ensures)

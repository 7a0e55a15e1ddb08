use Rattle.asn1_codec.proofs.Chain.{at-exit}
use Rattle.gss_contexts.proofs.MessageLaws.{no-mechanism, no-id, no-message}
use Rattle.gss_contexts.proofs.context_tokens.krb_message.KrbMessage.decode_application_krb_message.Goals as goal

pub returns-in_err-krb5_oid : goal.returns-in_err-krb5_oid
returns-in_err-krb5_oid g c =
    at-exit _ _ _ _ c.from_residual.ensures.1 (no-mechanism g.T.FromDer.reads c.args.bytes.now c.in_err-krb5_oid.field-0.0 c.in_err-krb5_oid.ensures)

pub returns-in_err-krb5_token_id : goal.returns-in_err-krb5_token_id
returns-in_err-krb5_token_id g c =
    at-exit _ _ _ _ c.from_residual-in_err-krb5_token_id.ensures.1
    (no-id g.T.FromDer.reads c.args.bytes.now c.in_ok-krb5_oid.krb5_oid c.in_ok-krb5_oid.inner.now c.in_err-krb5_token_id.field-0.0
    c.in_ok-krb5_oid.ensures c.in_err-krb5_token_id.ensures.0 c.in_err-krb5_token_id.ensures.1)

pub returns-in_err-krb_msg : goal.returns-in_err-krb_msg
returns-in_err-krb_msg g c =
    at-exit _ _ _ _ c.from_residual-in_err-krb_msg.ensures.1
    (no-message g.T.FromDer.reads c.args.bytes.now c.in_ok-krb5_oid.krb5_oid c.in_ok-krb5_oid.inner.now c.in_ok-krb5_token_id.krb5_token_id c.in_ok-krb5_token_id.message.now
    c.in_err-krb_msg.field-0.0 c.in_ok-krb5_oid.ensures c.in_ok-krb5_token_id.ensures c.in_err-krb_msg.ensures)

pub returns : goal.returns
returns g c = (c.in_ok-krb5_oid.inner.now, c.in_ok-krb5_token_id.message.now, c.in_ok-krb5_oid.ensures, c.in_ok-krb5_token_id.ensures, c.in_ok-krb_msg.ensures)

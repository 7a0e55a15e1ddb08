use Rattle.asn1_codec.proofs.Chain.{at-exit}
use Rattle.gss_contexts.specs.ContextTokens.{IsProxied}
use Rattle.gss_contexts.proofs.MessageLaws.{proxied-no_mechanism, proxied-no_id, proxied-other_id, proxied-told}
use Rattle.gss_contexts.proofs.Unread.{proxy-other}
use Rattle.gss_contexts.proofs.context_tokens.iakerb_proxy_message.proxied.Goals as goal

pub returns-in_err-mechanism : goal.returns-in_err-mechanism
returns-in_err-mechanism c =
    at-exit _ _ _ _ c.from_residual.ensures.1 (proxied-no_mechanism c.args.bytes.now c.in_err-mechanism.field-0.0 c.in_err-mechanism.ensures)

pub returns-in_err-check_mechanism : goal.returns-in_err-check_mechanism
returns-in_err-check_mechanism c =
    at-exit _ _ _ _ c.from_residual-in_err-check_mechanism.ensures.1
    (proxy-other (IsProxied c.args.bytes.now) c.args.bytes.now c.in_ok-mechanism.inner.now c.in_ok-mechanism.mechanism c.in_err-check_mechanism.field-0.0
    c.in_ok-mechanism.ensures c.in_err-check_mechanism.ensures)

pub returns-in_err-id : goal.returns-in_err-id
returns-in_err-id c =
    at-exit _ _ _ _ c.from_residual-in_err-id.ensures.1
    (proxied-no_id c.args.bytes.now c.in_ok-mechanism.mechanism c.in_ok-mechanism.inner.now c.in_err-id.field-0.0
    c.in_ok-mechanism.ensures c.in_ok-check_mechanism.ensures c.in_err-id.ensures.0 c.in_err-id.ensures.1)

pub returns-in_err-check_id : goal.returns-in_err-check_id
returns-in_err-check_id c =
    at-exit _ _ _ _ c.from_residual-in_err-check_id.ensures.1
    (proxied-other_id c.args.bytes.now c.in_ok-mechanism.mechanism c.in_ok-mechanism.inner.now c.in_ok-id.id c.in_ok-id.message.now c.in_err-check_id.field-0.0
    c.in_ok-mechanism.ensures c.in_ok-check_mechanism.ensures c.in_ok-id.ensures c.in_err-check_id.ensures.0 c.in_err-check_id.ensures.1)

pub returns : goal.returns
returns c =
    proxied-told c.args.bytes.now c.in_ok-mechanism.mechanism c.in_ok-mechanism.inner.now c.in_ok-id.id c.in_ok-id.message.now
    c.in_ok-mechanism.ensures c.in_ok-check_mechanism.ensures c.in_ok-id.ensures c.in_ok-check_id.ensures

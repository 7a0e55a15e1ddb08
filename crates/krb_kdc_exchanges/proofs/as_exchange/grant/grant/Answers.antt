use Rattle.krb_tickets.specs.Grant.{grant_of}
use Rattle.krb_tickets.specs.ReplyKeys.{reply_key_of}
use Rattle.krb_kdc_exchanges.specs.Preauthentication.{reply_key_by}
use Rattle.krb_kdc_exchanges.specs.Call.{call_of}
use Rattle.krb_kdc_exchanges.specs.Grants.{initial_grant, initial_till, principals_of}
use Rattle.krb_kdc_exchanges.proofs.Replied.{replied_by, tilled_by}
use Rattle.krb_kdc_exchanges.proofs.as_exchange.grant.grant.Goals as goal

pub returns-clause-reply : goal.returns-clause-reply
returns-clause-reply c =
    let call = call_of c.args.call.now in
    let principals = principals_of c.args.principals in
    let till = c.initial_till-till.result in
    tilled_by c.granted_reply-made.result (initial_till call c.args.span c.args.body.now) till (initial_grant call principals c.args.body.now c.args.span)
    (reply_key_by principals.client c.args.authenticated.now) principals.service c.args.call.now.words.now c.initial_till-till.ensures
    (replied_by c.granted_reply-made.result (grant_of c.in_ok-grant.grant) (initial_grant call principals c.args.body.now c.args.span till)
    (reply_key_of c.reply_key_by-under.result) (reply_key_by principals.client c.args.authenticated.now) principals.service c.args.call.now.words.now
    c.in_ok-grant.ensures c.reply_key_by-under.ensures c.granted_reply-made.ensures.reply)

use Rattle.std.proofs.Common.{refl, rules}
use Rattle.krb_tickets.specs.Grant.{grant_of}
use Rattle.krb_tickets.specs.ReplyKeys.{reply_key_of}
use Rattle.krb_kdc_exchanges.proofs.granted.granted_reply.Goals as goal

pub returns-clause-ticket : goal.returns-clause-ticket
returns-clause-ticket c = record {
  grant = grant_of c.args.grant.now;
  under = reply_key_of c.args.under.now;
  service = c.args.service.now;
  words = c.args.words.now;
  reply = c.in_ok-reply.ensures;
  suite = search rules;
  reply_suite = search rules;
  starts = refl;
  ends = refl;
}

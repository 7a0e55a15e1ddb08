use Rattle.std.proofs.Common.{Bool, subst, sym}
use Rattle.decision_tables.specs.Tables.{as_made}
use Rattle.krb_client.specs.AsReply.{takes_as_reply}
use Rattle.krb_client_exchanges.specs.Grants.{taken_of_suites}
use Rattle.krb_client_exchanges.specs.Courses.{Runs}
use Rattle.krb_client_exchanges.specs.Logins.{after_hint, means_of}
use Rattle.krb_client_exchanges.specs.declared.fault.LoginRefusal.TheVariants.{NotTaken}
use Rattle.krb_client_exchanges.proofs.Running.{runs-judged}
use Rattle.krb_client_exchanges.proofs.login.after_hint.Goals as goal

pub returns-then-is_reply : goal.returns-then-is_reply
returns-then-is_reply g c =
    subst (λ (is_reply : Bool). Runs (g.K.Kdc.events c.args.kdc.now) (g.K.Kdc.events c.args.kdc.now) (after_hint c.args.suites.now (c.args.asked.now, c.args.reply.now) (c.args.own.now, c.args.means.now) is_reply) c.take_first.result)
    (sym c.if-is_reply.true)
    (runs-judged NotTaken (as_made (taken_of_suites c.args.suites.now) (takes_as_reply c.args.own.now (means_of c.args.means.now) c.args.asked.now c.args.reply.now)) (g.K.Kdc.events c.args.kdc.now) c.take_first.result c.take_first.ensures)

pub returns : goal.returns
returns g c =
    subst (λ (is_reply : Bool). Runs (g.K.Kdc.events c.args.kdc.now) (g.K.Kdc.events c.after_error.new.kdc) (after_hint c.args.suites.now (c.args.asked.now, c.args.reply.now) (c.args.own.now, c.args.means.now) is_reply) c.after_error.result)
    (sym c.if-is_reply.false) c.after_error.ensures

use Rattle.std.proofs.Common.{Err, sym, ◌∙◌}
use Rattle.decision_tables.specs.Tables.{Table, and_then}
use Rattle.krb_crypto.specs.Keys.{KeyRecord}
use Rattle.krb_client.specs.AsReply.{takes_sealed}
use Rattle.krb_client.specs.Taking.{Taken}
use Rattle.krb_client.proofs.Outcomes.{refused_then, taken_then}
use Rattle.krb_client.proofs.TakingReply.{of_type}
use Rattle.krb_client.proofs.client.Client.take_reply.Goals as goal

pub returns-in-Ok : goal.returns-in-Ok
returns-in-Ok g c =
    let first = (g.M.Means.means c.args.means.now).reply_key c.args.self.now c.args.asked.now c.args.reply.now in
    let rest : KeyRecord → Table Taken = λ key. takes_sealed c.args.self.now key c.args.asked.now c.args.reply.now in
    of_type 11 c.args.reply.now.pvno.0 c.args.reply.now.msg_type.0 (and_then first rest) c.take_sealed.result (sym c.is_of_type.ensures ∙ c.if-not-is_of_type.false)
    (taken_then first rest c.take_sealed.result c.in-Ok.key (rw c.in-Ok.is at c.reply_key.ensures) c.take_sealed.ensures)

pub returns-in-Err : goal.returns-in-Err
returns-in-Err g c =
    let first = (g.M.Means.means c.args.means.now).reply_key c.args.self.now c.args.asked.now c.args.reply.now in
    let rest : KeyRecord → Table Taken = λ key. takes_sealed c.args.self.now key c.args.asked.now c.args.reply.now in
    of_type 11 c.args.reply.now.pvno.0 c.args.reply.now.msg_type.0 (and_then first rest) (Err c.in-Err.refusal) (sym c.is_of_type.ensures ∙ c.if-not-is_of_type.false)
    (refused_then first rest c.in-Err.refusal (rw c.in-Err.is at c.reply_key.ensures))

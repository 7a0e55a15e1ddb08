use Rattle.std.proofs.Common.{Err}
use Rattle.cms_signed_data.specs.SignedContents.{IsSignedContent}
use Rattle.cms_signed_data.specs.SignedLaws.{one_content, read_is}
use Rattle.decision_tables.specs.Tables.{done}
use Rattle.pkinit_clients.specs.Asked.{asked_of}
use Rattle.pkinit_clients.specs.Faults.{as_secret}
use Rattle.pkinit_clients.specs.Replies.{of_content}
use Rattle.pkinit_clients.specs.declared.fault.ReplyFault.TheVariants.{NotTrusted}
use Rattle.pkinit_clients.proofs.TakenLemmas.{taken_ask}
use Rattle.pkinit_clients.proofs.reply.take_signed.Goals as goal

pub returns-in-Ok : goal.returns-in-Ok
returns-in-Ok g c =
    let bytes = c.args.bytes.now in
    taken_ask (IsSignedContent bytes) (one_content bytes) (done (Err NotTrusted)) (of_content (g.K.KeyFunctions.functions c.args.keys.now) (asked_of c.args.asked.now))
    c.in-Ok.content (as_secret c.take_content-taken.result) (read_is (IsSignedContent bytes) c.in-Ok.content c.in-Ok.ensures) c.take_content-taken.ensures

use Rattle.std.proofs.Common.{Err}
use Rattle.cms_signed_data.specs.GeneralContents.{IsGeneralContent}
use Rattle.cms_signed_data.specs.GeneralLaws.{one_general}
use Rattle.cms_signed_data.specs.SignedLaws.{read_is}
use Rattle.decision_tables.specs.Tables.{done}
use Rattle.pkinit_clients.specs.Asked.{asked_of}
use Rattle.pkinit_clients.specs.Faults.{as_secret}
use Rattle.pkinit_clients.specs.AgileReplies.{of_general_content}
use Rattle.pkinit_clients.specs.declared.fault.ReplyFault.TheVariants.{NotTrusted}
use Rattle.pkinit_clients.proofs.TakenLemmas.{taken_ask}
use Rattle.pkinit_clients.proofs.agility.reply.take_general.Goals as goal

pub returns-in-Ok : goal.returns-in-Ok
returns-in-Ok g c =
    let bytes = c.args.bytes.now in
    taken_ask (IsGeneralContent bytes) (one_general bytes) (done (Err NotTrusted)) (of_general_content (g.K.KeyFunctions.functions c.args.keys.now) (asked_of c.args.asked.now))
    c.in-Ok.content (as_secret c.take_general_content-taken.result) (read_is (IsGeneralContent bytes) c.in-Ok.content c.in-Ok.ensures) c.take_general_content-taken.ensures

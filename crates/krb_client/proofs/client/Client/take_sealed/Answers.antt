use Rattle.krb_client.proofs.TakingReply.{taken_by_as_tag, taken_by_no_tag, taken_by_tgs_tag}
use Rattle.krb_client.proofs.client.Client.take_sealed.Goals as goal

pub returns-in-Some : goal.returns-in-Some
returns-in-Some c =
    let opened = rw c.in-Some.is at c.in_ok-part.ensures in
    let taken = rw (c.service.ensures, c.nonce.ensures) at c.take_part-taken.ensures in
    taken_by_as_tag c.args.self.now c.args.key.now c.args.asked.now c.args.reply.now c.in-Some.part c.take_part-taken.result opened taken

pub returns : goal.returns
returns c =
    let none = rw c.in_default.is at c.in_ok-part.ensures in
    let opened = rw c.in-Some-2.is at c.in_ok-part-2.ensures in
    let taken = rw (c.service-2.ensures, c.nonce-2.ensures) at c.take_part-taken-2.ensures in
    taken_by_tgs_tag c.args.self.now c.args.key.now c.args.asked.now c.args.reply.now c.in-Some-2.part c.take_part-taken-2.result none opened taken

pub returns-in_default-2 : goal.returns-in_default-2
returns-in_default-2 c =
    let none = rw c.in_default.is at c.in_ok-part.ensures in
    let neither = rw c.in_default-2.is at c.in_ok-part-2.ensures in
    taken_by_no_tag c.args.self.now c.args.key.now c.args.asked.now c.args.reply.now none neither

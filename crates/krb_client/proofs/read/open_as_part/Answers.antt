use Rattle.krb_client.specs.AsReply.{IsAsPart}
use Rattle.krb_messages.specs.Messages.{enc_as_rep_part_tree}
use Rattle.krb_client.proofs.Tagged.{sealed-around, sealed-inside}
use Rattle.krb_client.proofs.read.open_as_part.Goals as goal

pub returns-in-Some : goal.returns-in-Some
unfolding IsAsPart
returns-in-Some c =
    let found = rw c.in-Some.is at c.in_ok-opened.ensures in
    sealed-inside (λ tagged. tagged.0) enc_as_rep_part_tree _ _ 3 _ c.in-Some.part found

pub returns-in-None : goal.returns-in-None
unfolding IsAsPart
returns-in-None c =
    let none = rw c.in-None.is at c.in_ok-opened.ensures in
    λ part sealed. none (record { 0 = part }) (sealed-around (λ tagged. tagged.0) enc_as_rep_part_tree _ _ 3 _ (record { 0 = part }) sealed)

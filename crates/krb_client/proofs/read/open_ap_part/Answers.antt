use Rattle.krb_client.specs.ApReply.{IsApPart}
use Rattle.krb_messages.specs.Messages.{enc_ap_rep_part_tree}
use Rattle.krb_client.proofs.Tagged.{sealed-around, sealed-inside}
use Rattle.krb_client.proofs.read.open_ap_part.Goals as goal

pub returns-in-Some : goal.returns-in-Some
unfolding IsApPart
returns-in-Some c =
    let found = rw c.in-Some.is at c.in_ok-opened.ensures in
    let own = rw c.key.ensures at found in
    sealed-inside (λ tagged. tagged.0) enc_ap_rep_part_tree _ _ 12 _ c.in-Some.part own

pub returns-in-None : goal.returns-in-None
unfolding IsApPart
returns-in-None c =
    let none = rw c.in-None.is at c.in_ok-opened.ensures in
    let own = rw c.key.ensures at none in
    λ part sealed. own (record { 0 = part }) (sealed-around (λ tagged. tagged.0) enc_ap_rep_part_tree _ _ 12 _ (record { 0 = part }) sealed)

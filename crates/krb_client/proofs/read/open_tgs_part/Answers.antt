use Rattle.std.proofs.Common.{w32, SFits}
use Rattle.std.proofs.lemmas.Int.{to_z-of_z}
use Rattle.krb_client.specs.Taking.{IsTgsPart}
use Rattle.krb_messages.specs.Messages.{enc_tgs_rep_part_tree}
use Rattle.krb_client.proofs.Tagged.{sealed-around, sealed-inside}
use Rattle.krb_client.proofs.read.open_tgs_part.Goals as goal

pub returns-in-Some : goal.returns-in-Some
unfolding IsTgsPart
returns-in-Some c =
    let fits : SFits w32 c.args.usage = c.ranges.usage in
    let found = rw c.in-Some.is at c.in_ok-opened.ensures in
    let own = simp to_z-of_z at found in
    sealed-inside (λ tagged. tagged.0) enc_tgs_rep_part_tree _ _ _ _ c.in-Some.part own

pub returns-in-None : goal.returns-in-None
unfolding IsTgsPart
returns-in-None c =
    let fits : SFits w32 c.args.usage = c.ranges.usage in
    let none = rw c.in-None.is at c.in_ok-opened.ensures in
    let own = simp to_z-of_z at none in
    λ part sealed. own (record { 0 = part }) (sealed-around (λ tagged. tagged.0) enc_tgs_rep_part_tree _ _ _ _ (record { 0 = part }) sealed)

use Rattle.krb_log.proofs.asked.names_of_as.Goals as goal

pub returns-in_default : goal.returns-in_default
returns-in_default c =
    let none = rw c.in_default.is at c.in_ok-read.ensures in
    λ request writes. none (record { 0 = request }) writes

pub returns : goal.returns
returns c =
    let found = rw c.in-Some.is at c.in_ok-read.ensures in
    (c.in-Some.request.0, found, c.in_ok-names.ensures)

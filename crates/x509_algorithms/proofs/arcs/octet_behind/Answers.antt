use Rattle.std.proofs.Common.{ap, sym, ◌∙◌}
use Rattle.x509_algorithms.specs.Arcs.{only_octet, octet_behind_rest, octet_behind_none}
use Rattle.x509_algorithms.proofs.arcs.octet_behind.Goals as goal

pub returns-in-Some : goal.returns-in-Some
returns-in-Some c =
    let found = c.in-Some.ensures.cases in
    c.only_octet.ensures ∙ ap only_octet found.1 ∙ sym (octet_behind_rest c.args.prefix.now c.args.content.now found.0)

pub returns-in-None : goal.returns-in-None
returns-in-None c = sym (octet_behind_none c.args.prefix.now c.args.content.now c.in-None.ensures.cases)

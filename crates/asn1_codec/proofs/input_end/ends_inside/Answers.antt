use Rattle.std.proofs.Common.{sym, subst}
use Rattle.asn1_codec.specs.Named.{EndsInside}
use Rattle.asn1_codec.proofs.Lengths.{nothing}
use Rattle.asn1_codec.proofs.NamedLemmas.{nothing_inside, ends_by_count, ends_by_fault}
use Rattle.asn1_codec.proofs.input_end.ends_inside.Goals as goal

pub returns-in_default : goal.returns-in_default
returns-in_default c = subst EndsInside (sym (nothing c.args.input.now c.in_default.ensures.cases)) nothing_inside

pub returns-in-Ok : goal.returns-in-Ok
returns-in-Ok c =
    ends_by_count c.args.input.now c.in-Some.behind.now c.in-Ok.held.now c.in-Some._first.now c.in-Ok.count c.is_shorter.result c.is_shorter.ensures
    c.in-Ok.ensures.0 c.in-Some.ensures.cases.0 c.in-Ok.ensures.1

pub returns-in-Err : goal.returns-in-Err
returns-in-Err c =
    ends_by_fault c.args.input.now c.in-Some.behind.now c.in-Some._first.now c.in-Err.fault c.is_truncated.result c.is_truncated.ensures
    c.in-Some.ensures.cases.0 c.in-Err.ensures

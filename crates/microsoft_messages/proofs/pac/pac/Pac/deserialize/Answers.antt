use Rattle.std.proofs.Common.{sym, subst}
use Rattle.std.specs.Io.KnownBytes.{Consumes}
use Rattle.byte_streams.proofs.Exits.{at-exit}
use Rattle.microsoft_messages.proofs.RefusalLaws.{pac-refused, pac-broken, excused-refused, excused-only, refused-only, given-only}
use Rattle.microsoft_messages.proofs.StopLaws.{pac-told, pac-failed}
use Rattle.microsoft_messages.proofs.pac.pac.Pac.deserialize.Goals as goal

pub returns-in_err-pac-clause-only : goal.returns-in_err-pac-clause-only
returns-in_err-pac-clause-only g c =
    refused-only (g.R.Source.left c.args.reader.now) (g.R.Source.left c.read_to_stop.new.reader) c.from_residual-in_err-pac.result _ _ _ c.in_err-pac.field-0.0
    c.from_residual-in_err-pac.ensures.1
    (pac-refused (g.R.Source.left c.args.reader.now) (g.R.Source.left c.read_to_stop.new.reader) c.in_ok-came.came.fault _ _ _ c.deref.result.now _
    (subst (Consumes (g.R.Source.left c.args.reader.now) (g.R.Source.left c.read_to_stop.new.reader)) (sym c.deref.ensures.value) c.in_ok-came.ensures.bytes)
    c.in_ok-came.ensures.end c.in_ok-came.ensures.fault c.in_err-pac.ensures.exact)

pub returns-in_err-pac-clause-refused : goal.returns-in_err-pac-clause-refused
returns-in_err-pac-clause-refused g c =
    at-exit _ _ _ _ c.from_residual-in_err-pac.ensures.1
    (pac-refused (g.R.Source.left c.args.reader.now) (g.R.Source.left c.read_to_stop.new.reader) c.in_ok-came.came.fault _ _ _ c.deref.result.now _
    (subst (Consumes (g.R.Source.left c.args.reader.now) (g.R.Source.left c.read_to_stop.new.reader)) (sym c.deref.ensures.value) c.in_ok-came.ensures.bytes)
    c.in_ok-came.ensures.end c.in_ok-came.ensures.fault c.in_err-pac.ensures.exact)

pub returns-in-None-clause-only : goal.returns-in-None-clause-only
returns-in-None-clause-only g c =
    given-only (g.R.Source.left c.args.reader.now) (g.R.Source.left c.read_to_stop.new.reader) c.deref.result.now c.in_ok-came.came.fault _
    (subst (Consumes (g.R.Source.left c.args.reader.now) (g.R.Source.left c.read_to_stop.new.reader)) (sym c.deref.ensures.value) c.in_ok-came.ensures.bytes)
    c.in_ok-came.ensures.end c.in-None.is c.in_ok-pac.ensures.exact

pub returns-clause-only : goal.returns-clause-only
returns-clause-only g c =
    excused-only (g.R.Source.left c.args.reader.now) (g.R.Source.left c.read_to_stop.new.reader) _ _ _ _
    (pac-broken (g.R.Source.left c.args.reader.now) (g.R.Source.left c.read_to_stop.new.reader) c.in_ok-came.came.fault _ _ _ c.deref.result.now c.in-Some.kind _
    (subst (Consumes (g.R.Source.left c.args.reader.now) (g.R.Source.left c.read_to_stop.new.reader)) (sym c.deref.ensures.value) c.in_ok-came.ensures.bytes)
    c.in-Some.is c.in_ok-came.ensures.fault c.in_ok-pac.ensures.exact)

pub returns-clause-refused : goal.returns-clause-refused
returns-clause-refused g c =
    excused-refused (g.R.Source.left c.args.reader.now) (g.R.Source.left c.read_to_stop.new.reader) _ _ _ _
    (pac-broken (g.R.Source.left c.args.reader.now) (g.R.Source.left c.read_to_stop.new.reader) c.in_ok-came.came.fault _ _ _ c.deref.result.now c.in-Some.kind _
    (subst (Consumes (g.R.Source.left c.args.reader.now) (g.R.Source.left c.read_to_stop.new.reader)) (sym c.deref.ensures.value) c.in_ok-came.ensures.bytes)
    c.in-Some.is c.in_ok-came.ensures.fault c.in_ok-pac.ensures.exact)

pub returns-in_err-pac-clause-count : goal.returns-in_err-pac-clause-count
returns-in_err-pac-clause-count g c =
    at-exit _ _ _ _ c.from_residual-in_err-pac.ensures.1
    (pac-told (g.R.Source.left c.read_to_stop.new.reader) c.in_ok-came.came.fault _ _ _ c.deref.result.now _
    c.in_ok-came.ensures.end c.in_ok-came.ensures.fault c.in_err-pac.ensures.exact)

pub returns-clause-count : goal.returns-clause-count
returns-clause-count g c = pac-failed _ c.in_ok-came.came.fault _ _ _ c.in-Some.kind c.in-Some.is c.in_ok-came.ensures.fault

use Rattle.std.proofs.Common.{append-nil, sym}
use Rattle.krb_settings.specs.Warnings.{met}
use Rattle.krb_settings.proofs.Collected.{one_more}
use Rattle.krb_settings.proofs.warnings.add.Goals as goal

pub loop-case-preserved : goal.loop-case-preserved
loop-case-preserved c =
    one_more c.args.place _ c.loop-case.found.items c.add_case.new.found.items c.args.cases.now c.loop-case.case-index _
    c.loop-case-test.true c.loop-case.invariant c.in_ok-add_case.ensures

pub loop-case-init : goal.loop-case-init
unfolding met
loop-case-init c = sym (append-nil c.args.found.now.items)

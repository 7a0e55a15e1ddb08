use Rattle.std.proofs.lemmas.Result.{err_from_is_err_and}
use Rattle.krb_service.specs.Service.{ServiceRecord}
use Rattle.krb_service.proofs.Steps.{AreSettings, settings_of, step_held_with, step_refused_with, window_raised}
use Rattle.krb_service.proofs.service.Service.admit_with.Goals as goal

pub returns-in_err-presented-clause-remembers : goal.returns-in_err-presented-clause-remembers
returns-in_err-presented-clause-remembers c = λ admitted w.
    let old = c.args.self.now in
    let raised = c.raise.new.self in
    let own : ServiceRecord = record { entry = c.self.inside.entry; seen = c.self.inside.seen } in
    let same : AreSettings old c.args.moment own.entry raised c.skew-skew.result c.greatest-now.result =
    settings_of old own c.args.moment raised c.skew-skew.result c.greatest-now.result c.self.view_is c.raise.ensures.greatest c.raise.ensures.skew c.skew-skew.ensures.value c.greatest-now.ensures in
    let after = window_raised old own raised admitted c.self.view_is (c.raise.ensures.window admitted) w in
    let exit = err_from_is_err_and c.from_residual.result c.from_residual.ensures.1 in
    rw (exit.1, exit.2)
    (step_refused_with c.args.fields old c.args.moment own.entry raised c.skew-skew.result c.greatest-now.result admitted c.args.message.now c.args.words.now c.in_err-presented.field-0.0 same c.in_err-presented.ensures.received after)

pub returns-clause-remembers : goal.returns-clause-remembers
returns-clause-remembers c = λ admitted w.
    let old = c.args.self.now in
    let raised = c.raise.new.self in
    let own : ServiceRecord = record { entry = c.self.inside.entry; seen = c.self.inside.seen } in
    let same : AreSettings old c.args.moment own.entry raised c.skew-skew.result c.greatest-now.result =
    settings_of old own c.args.moment raised c.skew-skew.result c.greatest-now.result c.self.view_is c.raise.ensures.greatest c.raise.ensures.skew c.skew-skew.ensures.value c.greatest-now.ensures in
    let after = window_raised old own raised admitted c.self.view_is (c.raise.ensures.window admitted) w in
    step_held_with c.args.fields old c.args.moment own.entry raised c.skew-skew.result c.greatest-now.result admitted c.args.message.now c.args.words.now c.in_ok-presented.presented c.admit_once_with.result c.admit_once_with.new.seen same
    c.in_ok-presented.ensures.received (c.admit_once_with.ensures.once admitted after)

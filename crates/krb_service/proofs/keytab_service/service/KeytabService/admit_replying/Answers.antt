use Rattle.std.proofs.Common.{Err, max, subst}
use Rattle.std.proofs.lemmas.Result.{err_from_is_err_and}
use Rattle.krb_service.specs.RememberingService.{IsStep}
use Rattle.krb_service.specs.Seen.{IsWindow}
use Rattle.krb_service.specs.KeytabService.{KeytabServiceRecord}
use Rattle.krb_service.specs.Unasked.{remembering_unasked}
use Rattle.krb_service.proofs.ChosenSteps.{IsRaised}
use Rattle.krb_service.proofs.Unasked.{has_reply, unasked_held, unasked_refused}
use Rattle.krb_service.proofs.keytab_service.service.KeytabService.admit_replying.Goals as goal

pub returns-in_err-presented-clause-remembers : goal.returns-in_err-presented-clause-remembers
returns-in_err-presented-clause-remembers c = λ admitted w.
    let inside = c.self.inside in
    let raised = c.raise.new.self in
    let own : KeytabServiceRecord = record { realm = inside.realm; components = inside.components.items; entries = inside.entries.items; seen = inside.seen } in
    let same : IsRaised own c.args.moment raised c.skew-skew.result c.greatest-now.result =
    record { greatest = c.raise.ensures.greatest; skew_kept = c.raise.ensures.skew; own_skew = c.skew-skew.ensures.value; own_now = c.greatest-now.ensures } in
    let exit = err_from_is_err_and c.from_residual.result c.from_residual.ensures.1 in
    rw (exit.1, exit.2)
    (subst
    (λ (s : KeytabServiceRecord).
    IsWindow s.seen admitted
    → IsStep (remembering_unasked c.args.fields s (max s.seen.greatest c.args.moment) admitted c.args.message.now c.args.words.now).gives admitted (Err c.in_err-presented.field-0.0) raised)
    c.self.view_is
    (λ window.
    unasked_refused c.args.fields own c.args.moment raised c.skew-skew.result c.greatest-now.result admitted c.args.message.now c.args.words.now c.in_err-presented.field-0.0 same
    (rw c.as_slice.ensures.value at c.in_err-presented.ensures.received) (c.raise.ensures.window admitted window))
    w)

pub returns-clause-remembers : goal.returns-clause-remembers
returns-clause-remembers c = λ admitted w.
    let inside = c.self.inside in
    let raised = c.raise.new.self in
    let own : KeytabServiceRecord = record { realm = inside.realm; components = inside.components.items; entries = inside.entries.items; seen = inside.seen } in
    let same : IsRaised own c.args.moment raised c.skew-skew.result c.greatest-now.result =
    record { greatest = c.raise.ensures.greatest; skew_kept = c.raise.ensures.skew; own_skew = c.skew-skew.ensures.value; own_now = c.greatest-now.ensures } in
    subst
    (λ (s : KeytabServiceRecord).
    IsWindow s.seen admitted
    → IsStep (remembering_unasked c.args.fields s (max s.seen.greatest c.args.moment) admitted c.args.message.now c.args.words.now).gives admitted c.admit_once_with.result c.admit_once_with.new.seen)
    c.self.view_is
    (λ window.
    unasked_held c.args.fields own c.args.moment raised c.skew-skew.result c.greatest-now.result admitted c.args.message.now c.args.words.now c.in_ok-presented.presented c.asking-asked.result
    c.admit_once_with.result c.admit_once_with.new.seen same
    (rw c.as_slice.ensures.value at c.in_ok-presented.ensures.received) c.asking-asked.ensures (c.admit_once_with.ensures.once admitted (c.raise.ensures.window admitted window)))
    w

pub returns-clause-replied : goal.returns-clause-replied
returns-clause-replied c =
    let raised = c.raise.new.self in
    has_reply c.args.fields raised.skew c.greatest-now.result raised.held c.args.words.now c.in_ok-presented.presented c.asking-asked.result c.admit_once_with.result c.admit_once_with.new.seen
    c.asking-asked.ensures (c.admit_once_with.ensures.once raised.held c.holds_window.ensures)

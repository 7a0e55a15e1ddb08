use Rattle.std.proofs.Common.{rules, ◌∙◌}
use Rattle.std.proofs.lemmas.Result.{err_from_is_err_and}
use Rattle.krb_frames.specs.Serving.{MayLackAccounts}
use Rattle.krb_frames.proofs.Answering.{accounts, no_request, of_read}
use Rattle.krb_frames.proofs.Counts.{read_kept, write_kept}
use Rattle.krb_frames.proofs.Progress.{Whole-same, begins, ended, stopped_at_front, stopped_at_moment, stopped_at_step, goes}
use Rattle.krb_frames.proofs.stream.serve_frames.Goals as goal

pub frames-init : goal.frames-init
frames-init g c = record {
  can = c.requires.can;
  ends = c.requires.ends;
  read_count = search rules;
  words_count = search rules;
  write_count = search rules;
  progress = λ stream words known words_known. begins _ _ _ stream words c.args.moments.now _ _ _ known words_known;
}

pub returns-clause-output : goal.returns-clause-output
returns-clause-output g c = λ stream e words f.
    let p = c.frames.invariant.progress stream words e f in
    let read = rw c.in_default.is at (c.in_ok-message.ensures.front p.rest p.stream_known) in
    ended _ _ _ _ _ _ _ p _ read.0 read.1

pub returns-in_err-message-clause-output : goal.returns-in_err-message-clause-output
returns-in_err-message-clause-output g c =
    let r = err_from_is_err_and c.from_residual.result c.from_residual.ensures.1 in
    rw (r.1, r.2) (λ stream e words f.
    let p = c.frames.invariant.progress stream words e f in
    stopped_at_front _ _ _ _ _ _ _ p _ c.in_err-message.field-0.0 (c.in_err-message.ensures.front p.rest p.stream_known))

pub returns-in_default-next-clause-output : goal.returns-in_default-next-clause-output
returns-in_default-next-clause-output g c = λ stream e words f.
    let p = c.frames.invariant.progress stream words e f in
    let read = rw c.in-Some.is at (c.in_ok-message.ensures.front p.rest p.stream_known) in
    stopped_at_moment _ _ _ _ _ _ _ p c.in-Some.message.items read.0 read.2 _ read.1 _ c.in_default-next.ensures.steps

pub returns-in_err-answer_frame-clause-output : goal.returns-in_err-answer_frame-clause-output
returns-in_err-answer_frame-clause-output g c =
    let r = err_from_is_err_and c.from_residual-in_err-answer_frame.result c.from_residual-in_err-answer_frame.ensures.1 in
    rw (r.1, r.2) (λ stream e words f.
    let p = c.frames.invariant.progress stream words e f in
    let read = rw c.in-Some.is at (c.in_ok-message.ensures.front p.rest p.stream_known) in
    let front = Whole-same p.rest c.in-Some.message.items c.deref.result.now read.0 read.2 c.deref.ensures.value in
    stopped_at_step _ _ _ _ _ _ _ p c.deref.result.now read.0 front _ read.1 _ c.in-Some-next.moment c.in-Some-next.ensures.steps _ _ _ (c.in_err-answer_frame.ensures.step p.more p.words_known))

pub frames-preserved : goal.frames-preserved
frames-preserved g c = record {
  can = search rules;
  ends = search rules;
  read_count = search rules;
  words_count = search rules;
  write_count = search rules;
  progress = λ stream words e f.
      let p = c.frames.invariant.progress stream words e f in
      let read = rw c.in-Some.is at (c.in_ok-message.ensures.front p.rest p.stream_known) in
      let front = Whole-same p.rest c.in-Some.message.items c.deref.result.now read.0 read.2 c.deref.ensures.value in
      goes _ _ _ _ _ _ _ p c.deref.result.now read.0 front _ read.1 _ c.in-Some-next.moment c.in-Some-next.ensures.steps _ _ _ c.saturating_add-answered.ensures
      (c.in_ok-answer_frame.ensures.step p.more p.words_known);
}

pub returns-in_err-message-clause-read_kept : goal.returns-in_err-message-clause-read_kept
returns-in_err-message-clause-read_kept g c =
    let r = err_from_is_err_and c.from_residual.result c.from_residual.ensures.1 in
    rw (r.1, r.2) (λ other. (read_kept _ _ c.in_err-message.field-0.0 c.in_err-message.ensures.count other ∙ c.frames.invariant.read_count, c.frames.invariant.words_count))

pub returns-in_err-answer_frame-clause-read_kept : goal.returns-in_err-answer_frame-clause-read_kept
returns-in_err-answer_frame-clause-read_kept g c =
    let r = err_from_is_err_and c.from_residual-in_err-answer_frame.result c.from_residual-in_err-answer_frame.ensures.1 in
    rw (r.1, r.2) (λ other. (
      c.in_ok-message.ensures.count ∙ c.frames.invariant.read_count,
      read_kept _ _ c.in_err-answer_frame.field-0.0 c.in_err-answer_frame.ensures.read_count other ∙ c.frames.invariant.words_count,
    ))

pub returns-in_err-answer_frame-clause-write_kept : goal.returns-in_err-answer_frame-clause-write_kept
returns-in_err-answer_frame-clause-write_kept g c =
    let r = err_from_is_err_and c.from_residual-in_err-answer_frame.result c.from_residual-in_err-answer_frame.ensures.1 in
    rw (r.1, r.2) (λ other. write_kept _ _ c.in_err-answer_frame.field-0.0 c.in_err-answer_frame.ensures.write_count other ∙ c.frames.invariant.write_count)

pub returns-in_err-message-clause-no_request : goal.returns-in_err-message-clause-no_request
returns-in_err-message-clause-no_request g c =
    let r = err_from_is_err_and c.from_residual.result c.from_residual.ensures.1 in
    let replies = g.A.Responder.replies c.args.responder.now in
    let lacks = MayLackAccounts (g.A.Responder.may_lack_accounts c.args.responder.now) in
    rw (r.1, r.2) (no_request replies lacks c.in_err-message.field-0.0 (of_read replies lacks c.in_err-message.field-0.0 c.in_err-message.ensures.faults))

pub returns-in_err-answer_frame-clause-no_request : goal.returns-in_err-answer_frame-clause-no_request
returns-in_err-answer_frame-clause-no_request g c =
    let r = err_from_is_err_and c.from_residual-in_err-answer_frame.result c.from_residual-in_err-answer_frame.ensures.1 in
    rw (r.1, r.2) (no_request (g.A.Responder.replies c.args.responder.now) (g.A.Responder.may_lack_accounts c.args.responder.now c.deref.result.now) c.in_err-answer_frame.field-0.0 c.in_err-answer_frame.ensures.refusals)

pub returns-in_err-message-clause-accounts : goal.returns-in_err-message-clause-accounts
returns-in_err-message-clause-accounts g c =
    let r = err_from_is_err_and c.from_residual.result c.from_residual.ensures.1 in
    let replies = g.A.Responder.replies c.args.responder.now in
    let lacks = MayLackAccounts (g.A.Responder.may_lack_accounts c.args.responder.now) in
    rw (r.1, r.2) (accounts replies lacks c.in_err-message.field-0.0 (of_read replies lacks c.in_err-message.field-0.0 c.in_err-message.ensures.faults))

pub returns-in_err-answer_frame-clause-accounts : goal.returns-in_err-answer_frame-clause-accounts
returns-in_err-answer_frame-clause-accounts g c =
    let r = err_from_is_err_and c.from_residual-in_err-answer_frame.result c.from_residual-in_err-answer_frame.ensures.1 in
    rw (r.1, r.2) (λ e. (
      c.deref.result.now,
      accounts (g.A.Responder.replies c.args.responder.now) (g.A.Responder.may_lack_accounts c.args.responder.now c.deref.result.now) c.in_err-answer_frame.field-0.0
          c.in_err-answer_frame.ensures.refusals e,
    ))

use Rattle.std.proofs.Common.{rules, Some, None, inl, take, sym, subst}
use Rattle.std.proofs.lemmas.Result.{err_from_is_err_and}
use Rattle.krb_frames.proofs.Answering.{answered, may_refuse, of_words, of_written}
use Rattle.std.proofs.KnownBytes.{Keeps-refl}
use Rattle.krb_frames.proofs.frame.answer_frame.Goals as goal

pub returns-in-Err-Unreadable-clause-step : goal.returns-in-Err-Unreadable-clause-step
returns-in-Err-Unreadable-clause-step g c = λ words known.
    let w = c.in_ok-words.ensures.front words known in (
      (
        w.1,
        subst (λ l. g.A.Responder.replies c.args.responder.now c.args.message.now c.args.moment l None) w.0
            (c.in-Err-Unreadable.ensures.reply c.in-Err-Unreadable.field-0-is),
      ),
      Keeps-refl _,
      w.2,
    )

pub returns-then-len-gt-FRAME_LIMIT-clause-step : goal.returns-then-len-gt-FRAME_LIMIT-clause-step
returns-then-len-gt-FRAME_LIMIT-clause-step g c = λ words known.
    let w = c.in_ok-words.ensures.front words known in (
      c.in-Ok.reply.items,
      (
        w.1,
        subst (λ l. g.A.Responder.replies c.args.responder.now c.args.message.now c.args.moment l (Some c.in-Ok.reply.items)) w.0
            c.in-Ok.ensures.reply,
      ),
      search rules,
      Keeps-refl _,
      w.2,
    )

pub returns-clause-step : goal.returns-clause-step
returns-clause-step g c = λ words known.
    let w = c.in_ok-words.ensures.front words known in
    let reply = c.deref.result.now in
    let replied = subst (λ l. g.A.Responder.replies c.args.responder.now c.args.message.now c.args.moment l (Some c.in-Ok.reply.items)) w.0 c.in-Ok.ensures.reply in
    let same = subst (λ l. g.A.Responder.replies c.args.responder.now c.args.message.now c.args.moment (take 128 words) (Some l)) (sym c.deref.ensures.value) replied in
    answered (g.A.Responder.replies c.args.responder.now) (g.A.Responder.may_want_memory c.args.responder.now) c.args.message.now c.args.moment words reply _ _ _ c.write_frame.result (w.1, same) (search rules) w.2
    c.write_frame.ensures.written

pub returns-in-Err-Memory-clause-step : goal.returns-in-Err-Memory-clause-step
returns-in-Err-Memory-clause-step g c = λ words known.
    let w = c.in_ok-words.ensures.front words known in
    (w.1, inl (c.in-Err-Memory.ensures.memory c.in-Err-Memory.field-0-is), Keeps-refl _, w.2)

pub returns-in-Err-Accounts-clause-step : goal.returns-in-Err-Accounts-clause-step
returns-in-Err-Accounts-clause-step g c = λ words known.
    let w = c.in_ok-words.ensures.front words known in
    (w.1, Keeps-refl _, w.2)

pub returns-in-Err-Unreadable-clause-refusals : goal.returns-in-Err-Unreadable-clause-refusals
returns-in-Err-Unreadable-clause-refusals g c =
    may_refuse (g.A.Responder.replies c.args.responder.now) c.args.message.now c.args.moment c.in_ok-words.words
    (c.in-Err-Unreadable.ensures.reply c.in-Err-Unreadable.field-0-is)

pub returns-in-Err-Accounts-clause-refusals : goal.returns-in-Err-Accounts-clause-refusals
returns-in-Err-Accounts-clause-refusals g c = c.in-Err-Accounts.ensures.accounts c.in-Err-Accounts.field-0-is

pub returns-clause-refusals : goal.returns-clause-refusals
returns-clause-refusals g c =
    of_written (g.A.Responder.replies c.args.responder.now) (g.A.Responder.may_lack_accounts c.args.responder.now c.args.message.now) c.write_frame.result _ _ _ c.write_frame.ensures.written

pub returns-in_err-words-clause-refusals : goal.returns-in_err-words-clause-refusals
returns-in_err-words-clause-refusals g c =
    let r = err_from_is_err_and c.from_residual.result c.from_residual.ensures.1 in
    rw (r.1, r.2) (of_words (g.A.Responder.replies c.args.responder.now) (g.A.Responder.may_lack_accounts c.args.responder.now c.args.message.now) c.in_err-words.field-0.0 c.in_err-words.ensures.faults)

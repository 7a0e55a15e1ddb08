use Rattle.std.proofs.Common.{rules}
use Rattle.std.proofs.lemmas.Result.{err_from_is_err_and}
use Rattle.krb_frames.proofs.Fronts.{front_of-nothing, left-nothing, front_of-short, left-none, front_of-long, left-behind_prefix, IsFrontFault-after_prefix, front_of-whole, begins}
use Rattle.krb_frames.proofs.frame.read_frame.Goals as goal

pub returns-then-prefix_count-eq0-clause-front : goal.returns-then-prefix_count-eq0-clause-front
returns-then-prefix_count-eq0-clause-front g c = λ stream known.
    let filled = c.in_ok-prefix_count.ensures.front stream known in
    (front_of-nothing stream _ _ _ (search rules) c.if-prefix_count-eq0.true filled, left-nothing stream _ _ _ c.if-prefix_count-eq0.true filled)

pub returns-then-prefix_count-lt4-clause-front : goal.returns-then-prefix_count-lt4-clause-front
returns-then-prefix_count-lt4-clause-front g c = λ stream known.
    let filled = c.in_ok-prefix_count.ensures.front stream known in
    (front_of-short stream _ _ _ (search rules) c.if-prefix_count-eq0.false c.if-prefix_count-lt4.true filled, left-none stream _ _ _ (search rules) filled)

pub returns-then-size-gt-FRAME_LIMIT-clause-front :
    goal.returns-then-size-gt-FRAME_LIMIT-clause-front
returns-then-size-gt-FRAME_LIMIT-clause-front g c = λ stream known.
    let filled = c.in_ok-prefix_count.ensures.front stream known in
    let b = begins stream c.fill.new.buffer _ _ c.read_u32-size.result (search rules) c.if-prefix_count-lt4.false c.read_u32-size.ensures filled in
    (front_of-long stream _ _ b (search rules), left-behind_prefix stream _ _ _ b filled.known)

pub returns-in_err-message-clause-front : goal.returns-in_err-message-clause-front
returns-in_err-message-clause-front g c =
    let r = err_from_is_err_and c.from_residual-in_err-message.result c.from_residual-in_err-message.ensures.1 in
    rw (r.1, r.2) (λ stream known.
    let first = c.in_ok-prefix_count.ensures.front stream known in
    let b = begins stream c.fill.new.buffer _ _ c.read_u32-size.result (search rules) c.if-prefix_count-lt4.false c.read_u32-size.ensures first in
    IsFrontFault-after_prefix stream _ _ _ b (search rules) c.in_err-message.field-0.0 (c.in_err-message.ensures.front first.rest first.known))

pub returns-clause-front : goal.returns-clause-front
returns-clause-front g c = λ stream known.
    let first = c.in_ok-prefix_count.ensures.front stream known in
    let b = begins stream c.fill.new.buffer _ _ c.read_u32-size.result (search rules) c.if-prefix_count-lt4.false c.read_u32-size.ensures first in
    let taken = c.in_ok-message.ensures.front first.rest first.known in
    (taken.rest, taken.known, front_of-whole stream _ _ b (search rules) c.in_ok-message.message.items _ (search rules) taken)

use Rattle.std.proofs.Common.{rules, ◌≡◌, ◌<◌, length, take, drop, ◌++◌, sym, subst}
use Rattle.std.proofs.lemmas.List.{take_at}
use Rattle.krb_frames.specs.Steps.{IsTaken}
use Rattle.krb_frames.proofs.Fronts.{IsTaken-from_IsFilled, length-lt-room, left-none}
use Rattle.krb_frames.proofs.frame.read_message.Goals as goal

pub returns-then-count-size-clause-front : goal.returns-then-count-size-clause-front
returns-then-count-size-clause-front g c = λ stream known.
    let room : length c.fill.new.buffer ≡ c.args.size = search rules in
    let filled = c.in_ok-count.ensures.front stream known in
    (subst (λ n. length stream < n) room (length-lt-room stream c.fill.new.buffer _ _ (search rules) filled), left-none stream c.fill.new.buffer _ _ (search rules) filled)

pub returns-clause-front : goal.returns-clause-front
returns-clause-front g c = λ stream known.
    let room : length c.fill.new.buffer ≡ c.args.size = search rules in
    let whole : take c.in_ok-message.message.len (c.fill.new.buffer ++ drop (length c.fill.new.buffer) c.in_ok-message.message.items) ≡ c.fill.new.buffer =
    take_at c.fill.new.buffer _ c.in_ok-message.message.len (search rules) in
    subst (IsTaken stream (g.R.Source.left c.fill.new.reader)) (sym whole)
    (IsTaken-from_IsFilled stream c.fill.new.buffer _ _ (search rules) (c.in_ok-count.ensures.front stream known))

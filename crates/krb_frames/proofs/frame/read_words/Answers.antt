use Rattle.std.proofs.Common.{rules, ◌≡◌, ◌<◌, length, subst}
use Rattle.krb_frames.proofs.Fronts.{IsTaken-from_IsFilled, length-lt-room, left-none, taken-front}
use Rattle.krb_frames.proofs.frame.read_words.Goals as goal

pub returns-then-count-lt128-clause-front : goal.returns-then-count-lt128-clause-front
returns-then-count-lt128-clause-front g c = λ words known.
    let room : length c.fill.new.buffer ≡ 128 = search rules in
    let filled = c.in_ok-count.ensures.front words known in
    (subst (λ n. length words < n) room (length-lt-room words c.fill.new.buffer _ _ (search rules) filled), left-none words c.fill.new.buffer _ _ (search rules) filled)

pub returns-clause-front : goal.returns-clause-front
returns-clause-front g c = λ words known.
    let room : length c.fill.new.buffer ≡ 128 = search rules in
    taken-front words c.fill.new.buffer _ 128 room (IsTaken-from_IsFilled words c.fill.new.buffer _ _ (search rules) (c.in_ok-count.ensures.front words known))

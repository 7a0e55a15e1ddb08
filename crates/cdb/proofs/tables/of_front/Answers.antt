use Rattle.std.proofs.Common.{sym, ◌∙◌}
use Rattle.cdb.proofs.Fronts.{front_found, front_of_other_key, front_of_other_size, rest_compared}
use Rattle.cdb.proofs.tables.of_front.Goals as goal

pub returns-then-key_size-key : goal.returns-then-key_size-key
returns-then-key_size-key c = λ bytes filled.
    front_of_other_size c.args.at c.args.key.now bytes c.args.front.now c.requires filled (rw c.u32_le-key_size.ensures.read at c.if-key_size-key.true)

pub returns-then-ne : goal.returns-then-ne
returns-then-ne c = λ bytes filled.
    front_of_other_key c.args.at c.args.key.now bytes c.args.front.now c.requires filled (sym c.u32_le-key_size.ensures.read ∙ c.if-key_size-key.false)
    (rest_compared c.args.front.now c.args.key.now _ c.if-ne.ensures)

pub returns : goal.returns
returns c = λ bytes filled.
    rw (c.from.ensures, c.from-2.ensures, c.u32_le-key_size.ensures.read, c.u32_le.ensures.read)
    (front_found c.args.at c.args.key.now bytes c.args.front.now c.requires filled (sym c.u32_le-key_size.ensures.read ∙ c.if-key_size-key.false)
    (rest_compared c.args.front.now c.args.key.now _ c.if-ne.ensures))

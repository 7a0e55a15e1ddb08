use Rattle.std.proofs.Common.{◌+◌, ◌-◌, ◌*◌, ℕ, ap, sym, ◌∙◌}
use Rattle.krb_commands.specs.Kinds.{are_joined}
use Rattle.krb_commands.proofs.Fronts.{joined_all, joined_start, joined_step, joined_stop}
use Rattle.krb_commands.proofs.kinds.all_joined.Goals as goal

pub loop-table-init : goal.loop-table-init
loop-table-init c = ap (λ (start : ℕ). are_joined 256 0 start c.args.front.now) c.from-end.ensures ∙ joined_start c.args.first c.args.front.now

pub returns-then-position-end : goal.returns-then-position-end
returns-then-position-end c =
    sym (joined_stop c.loop-table.table c.loop-table.end c.args.front.now c.loop-table-test.true
    (λ same. c.if-position-end.true (c.from-position.ensures ∙ c.u32_le.ensures.read ∙ same)))
    ∙ c.loop-table.invariant

pub loop-table-preserved : goal.loop-table-preserved
loop-table-preserved c =
    let table = c.loop-table.table in
    let front = c.args.front.now in
    let stands = sym (c.from-position.ensures ∙ c.u32_le.ensures.read) ∙ c.if-position-end.false in
    ap (λ (start : ℕ). are_joined (256 - (table + 1)) ((table + 1) * 8) (start + c.from.result * 8) front) c.if-position-end.false
    ∙ ap (λ (slots : ℕ). are_joined (256 - (table + 1)) ((table + 1) * 8) (c.loop-table.end + slots * 8) front) (c.from.ensures ∙ c.u32_le-in-loop-table.ensures.read)
    ∙ sym (joined_step table c.loop-table.end front c.loop-table-test.true stands)
    ∙ c.loop-table.invariant

pub returns : goal.returns
returns c = sym (joined_all c.loop-table.table c.loop-table.end c.args.front.now c.loop-table-test.false) ∙ c.loop-table.invariant

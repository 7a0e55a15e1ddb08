use Rattle.std.proofs.Common.{sym, ◌∙◌}
use Rattle.asn1_codec.proofs.Lengths.{nothing, no_octet, no_length, no_such_length, short_length}
use Rattle.asn1_codec.proofs.input_end.split_length.Goals as goal

pub returns-in_default : goal.returns-in_default
returns-in_default c = rw (nothing c.args.input.now c.in_default.ensures.cases) no_octet

pub returns-in_default-following : goal.returns-in_default-following
returns-in_default-following c =
    rw c.in-Some.ensures.cases.0 (no_length c.in-Some.first.now c.in-Some.digits.now c.in_default-following.ensures.count)

pub returns-then-digits-more : goal.returns-then-digits-more
returns-then-digits-more c =
    short_length c.args.input.now c.in-Some.first.now c.in-Some-following.more c.in-Some.digits.now c.fault_of_digits.result
    c.in-Some.ensures.cases.0 (λ i. (c.type_inv.input i).fits) c.in-Some-following.ensures.count
    (λ e. let none = c.in-Some-following.ensures.indefinite e in cc)
    c.if-digits-more.true c.fault_of_digits.ensures.zero c.fault_of_digits.ensures.other

pub returns-in-None : goal.returns-in-None
returns-in-None c =
    rw c.in-Some.ensures.cases.0
    (no_such_length c.in-Some.first.now c.in-Some-following.more c.in-Some.digits.now c.split_at.result.0.now c.split_at.result.1.now
    c.in-Some-following.ensures.count (sym c.in-Some.ensures.cases.0 ∙ c.split_at.ensures.by_index.0) c.split_at.ensures.front_len c.in-None.ensures)

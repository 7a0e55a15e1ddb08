use Rattle.std.proofs.Common.{◌+◌, ◌/◌, ◌∙◌, sym, ap, arith}
use Rattle.encryption_profiles.proofs.Modular.{next_in_row, next_row}
use Rattle.encryption_profiles.proofs.Copies.{of_data-same_copy, of_data-byte_before, of_data-same_byte}
use Rattle.encryption_profiles.proofs.place.Place.next.Goals as goal

pub returns-then-self-len-clause-at : goal.returns-then-self-len-clause-at
returns-then-self-len-clause-at c = λ p at.
    let s = c.args.self in
    let row = next_in_row p s.len (omega (arith, at.of_copy)) in
    record {
      of_copy = ap (λ n. n + 1) at.of_copy ∙ sym row.1;
      of_data = rw (c.byte_after.ensures, row.0) (of_data-same_copy s.len s.index s.byte s.bit (p / s.len) c.if-self-len.true at.of_data);
    }

pub returns-then-self-lt5-clause-at : goal.returns-then-self-lt5-clause-at
returns-then-self-lt5-clause-at c = λ p at.
    let s = c.args.self in
    let row = next_row p s.len (omega arith) (omega (arith, at.of_copy)) in
    record {
      of_copy = sym row.1;
      of_data = rw (c.byte_before.ensures, row.0) (of_data-byte_before s.len s.index s.byte s.bit (p / s.len) (omega arith) (omega arith) at.of_data);
    }

pub returns-clause-at : goal.returns-clause-at
returns-clause-at c = λ p at.
    let s = c.args.self in
    let row = next_row p s.len (omega arith) (omega (arith, at.of_copy)) in
    record {
      of_copy = sym row.1;
      of_data = rw row.0 (of_data-same_byte s.len s.index s.byte s.bit (p / s.len) (omega arith) (omega arith) c.if-self-lt5.false at.of_data);
    }

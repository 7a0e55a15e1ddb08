use Rattle.std.proofs.Common.{◌≡◌, ◌∙◌, length, sym, arith}
use Rattle.std.proofs.lemmas.Nat.{and_mask}
use Rattle.encryption_profiles.proofs.CopiedBits.{number_at-byte}
use Rattle.encryption_profiles.proofs.place.Place.read.Goals as goal

pub returns : goal.returns
returns c = λ p at.
    let s = c.args.self in
    let bytes = c.args.input.now in
    let len : length bytes ≡ s.len = sym c.requires in
    let byte = number_at-byte bytes p s.index s.byte s.bit (omega arith) (omega arith) (rw len at.of_copy) (rw len at.of_data) ((c.type_inv.input _).fits) in
    rw (c.from_be_bytes-pair.ensures, c.byte_after.ensures, c.requires) (and_mask _ 8 ∙ sym byte)

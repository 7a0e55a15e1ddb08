use Rattle.std.proofs.Common.{◌≡◌, ◌/◌, length-set, refl, arith, ap, ◌∙◌}
use Rattle.std.specs.Int.{w64, from_be_bytes}
use Rattle.std.proofs.lemmas.Nat.{and_le_r}
use Rattle.block_ciphers.specs.Bytes.{IsBytes}
use Rattle.block_ciphers.specs.Des.{round_keys}
use Rattle.block_ciphers.proofs.Schedules.{no_key, one_more_key, all_keys, shift_fits, number_bits}
use Rattle.block_ciphers.proofs.des3.schedule.round_keys.Goals as goal

pub loop-i-init : goal.loop-i-init
loop-i-init c =
    let key = c.args.key.now in
    let number = c.from_be_bytes.result in
    let bytes : IsBytes c.args.key.now = λ i. (c.type_inv.key i).fits in
    let is : c.from_be_bytes.result ≡ from_be_bytes w64 c.args.key.now = c.from_be_bytes.ensures ∙ ap (from_be_bytes w64) c.copy_from_slice.ensures.after in
    record {
      sized = refl;
      first = omega (arith, and_le_r (c.permute-chosen.result / 268435456) 268435455);
      second = omega (arith, and_le_r c.permute-chosen.result 268435455);
      so_far = no_key c.permute-chosen.result c.from_be_bytes.result c.args.key.now (number_bits c.args.key.now c.from_be_bytes.result c.requires bytes is) c.permute-chosen.ensures;
    }

pub turn-c-requires-clause-some : goal.turn-c-requires-clause-some
turn-c-requires-clause-some c = (shift_fits c.loop-i.i (omega arith)).0

pub turn-c-requires-clause-few : goal.turn-c-requires-clause-few
turn-c-requires-clause-few c = (shift_fits c.loop-i.i (omega arith)).1

pub turn-d-requires-clause-some : goal.turn-d-requires-clause-some
turn-d-requires-clause-some c = (shift_fits c.loop-i.i (omega arith)).0

pub turn-d-requires-clause-few : goal.turn-d-requires-clause-few
turn-d-requires-clause-few c = (shift_fits c.loop-i.i (omega arith)).1

pub loop-i-preserved : goal.loop-i-preserved
loop-i-preserved c =
    record {
      sized = length-set c.loop-i.keys c.loop-i.i c.permute.result ∙ c.loop-i.invariant.sized;
      first = c.turn-c.ensures.small;
      second = c.turn-d.ensures.small;
      so_far = one_more_key c.loop-i.keys c.loop-i.i c.permute.result c.loop-i.c c.loop-i.d c.turn-c.result c.turn-d.result (round_keys c.args.key.now) (omega arith) (omega arith) c.turn-c.ensures.turned c.turn-d.ensures.turned c.turn-c.ensures.small c.turn-d.ensures.small c.permute.ensures c.loop-i.invariant.so_far;
    }

pub returns : goal.returns
returns c = all_keys c.loop-i.keys c.loop-i.i c.loop-i.c c.loop-i.d (round_keys c.args.key.now) c.loop-i.invariant.sized (omega arith) c.loop-i.invariant.so_far

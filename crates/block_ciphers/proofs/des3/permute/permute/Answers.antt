use Rattle.std.proofs.Common.{◌<◌, ◌≤◌, sym, rules, arith}
use Rattle.block_ciphers.specs.Bits.{low_bits, permuted}
use Rattle.block_ciphers.proofs.Steps.{one_more_place, place_fits, all_places}
use Rattle.block_ciphers.proofs.des3.permute.permute.Goals as goal

pub loop-place-init : goal.loop-place-init
unfolding low_bits permuted
loop-place-init c = search rules

pub loop-place-preserved : goal.loop-place-preserved
loop-place-preserved c =
    let fits = place_fits c.args.width c.args.table.now c.loop-place.place-index (omega arith) c.requires.places in
    let some : 0 < c.from.result = rw (sym c.from.ensures) at fits.0 in
    let within : c.from.result ≤ c.args.width = rw (sym c.from.ensures) at fits.1 in
    one_more_place c.args.table.now c.loop-place.place-index c.args.width c.loop-place.permuted c.args.string c.from.result (omega arith) c.requires.sized c.from.ensures some within c.loop-place.invariant

pub returns : goal.returns
returns c = all_places c.args.table.now c.loop-place.place-index c.args.width c.loop-place.permuted c.args.string (omega arith) c.loop-place.invariant

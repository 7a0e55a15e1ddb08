use Rattle.std.proofs.Common.{◌≡◌, ◌∙◌, arith}
use Rattle.std.specs.Int.{div_ceil}
use Rattle.krb_crypto.specs.Agreement.{seed_octets_of}
use Rattle.krb_crypto.proofs.AgreementLemmas.{numbered_digests-none, numbered_digests-more}
use Rattle.krb_crypto.proofs.diffie_hellman.digests.seed_octets.Goals as goal

pub loop-number-init : goal.loop-number-init
loop-number-init c = record {
  digests = c.new-octets.ensures.items ∙ numbered_digests-none c.args.secret.now;
  sized = omega (arith, c.new-octets.ensures.len);
}

pub loop-number-preserved : goal.loop-number-preserved
loop-number-preserved c = record {
  digests = rw (numbered_digests-more, ← c.loop-number.invariant.digests, ← c.numbered_digest.ensures) c.in_ok-extend_from_slice.ensures.items;
  sized = omega (arith, c.in_ok-extend_from_slice.ensures.len, c.loop-number.invariant.sized);
}

pub returns-clause-made : goal.returns-clause-made
unfolding seed_octets_of
returns-clause-made c =
    let count : c.loop-number.number ≡ div_ceil c.args.len 20 = omega (arith, c.div_ceil-number-end.ensures) in
    rw (← count, ← c.loop-number.invariant.digests) c.truncate.ensures.items

pub returns-clause-sized : goal.returns-clause-sized
returns-clause-sized c = omega (arith, c.truncate.ensures.len, c.loop-number.invariant.sized, c.div_ceil-number-end.ensures)

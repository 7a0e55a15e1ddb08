use Rattle.std.proofs.Common.{◌≡◌, ◌*◌, ◌/◌, length, refl, ◌∙◌, arith}
use Rattle.std.proofs.lemmas.List.{take_all, length-set}
use Rattle.block_ciphers.specs.Words.{bytes_of}
use Rattle.block_ciphers.proofs.Words.{key_in_words, key_written}
use Rattle.block_ciphers.proofs.aes.schedule.begun_words.Goals as goal

pub loop-i-init : goal.loop-i-init
unfolding bytes_of
loop-i-init c = record { long = refl; so_far = refl }

pub loop-i-preserved : goal.loop-i-preserved
loop-i-preserved c =
    record {
      long = length-set c.loop-i.words c.loop-i.i c.word_at.result ∙ c.loop-i.invariant.long;
      so_far = key_written c.loop-i.words c.args.key.now c.loop-i.i c.word_at.result (omega arith) c.loop-i.invariant.so_far c.word_at.ensures;
    }

pub returns : goal.returns
returns c =
    let key = c.args.key.now in
    let all : length c.args.key.now / 4 ≡ c.loop-i.i = omega arith in
    rw all (c.loop-i.invariant.so_far ∙ take_all (4 * c.loop-i.i) key (omega (arith, key_in_words key c.requires.sized)))

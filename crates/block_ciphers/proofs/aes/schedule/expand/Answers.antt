use Rattle.std.proofs.Common.{◌≡◌, ◌+◌, ◌-◌, ◌*◌, ◌/◌, length, refl, ◌∙◌, arith, take}
use Rattle.std.proofs.lemmas.List.{length-set}
use Rattle.block_ciphers.specs.Aes.{expansion}
use Rattle.block_ciphers.specs.Words.{bytes_of}
use Rattle.block_ciphers.proofs.Words.{word_written, expansion_more, schedule_written}
use Rattle.block_ciphers.proofs.WordBytes.{length-front}
use Rattle.block_ciphers.proofs.aes.schedule.expand.Goals as goal

pub loop-i-init : goal.loop-i-init
unfolding expansion
loop-i-init c =
    let none : c.args.key_words - c.args.key_words ≡ 0 = omega arith in
    record { long = omega arith; so_far = rw none refl }

pub loop-i-preserved : goal.loop-i-preserved
loop-i-preserved c =
    let nk = c.args.key_words in
    let i = c.loop-i.i in
    let key = bytes_of (take c.args.key_words c.args.words.now) in
    let words_of_key : c.args.key_words ≡ length (bytes_of (take c.args.key_words c.args.words.now)) / 4 = omega (arith, length-front c.args.key_words c.args.words.now (omega arith)) in
    record {
      long = length-set c.loop-i.words c.loop-i.i _ ∙ c.loop-i.invariant.long;
      so_far =
          word_written c.loop-i.words nk i c.turned_word.result (omega arith) (omega arith) (omega arith) c.turned_word.ensures
          ∙ rw c.loop-i.invariant.so_far (expansion_more key (i - nk) nk i (i + 1 - nk) words_of_key (omega arith) (omega arith));
    }

pub returns : goal.returns
returns c =
    let nk = c.args.key_words in
    let key = bytes_of (take c.args.key_words c.args.words.now) in
    let long : length (bytes_of (take c.args.key_words c.args.words.now)) ≡ 4 * c.args.key_words = length-front c.args.key_words c.args.words.now (omega arith) in
    let all : 4 * (c.args.key_words + 6) + 4 ≡ c.loop-i.i = omega arith in
    rw all (c.loop-i.invariant.so_far ∙ schedule_written key (c.loop-i.i - nk) (omega arith))

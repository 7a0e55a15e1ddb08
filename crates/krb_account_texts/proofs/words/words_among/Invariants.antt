use Rattle.std.proofs.Common.{◌≡◌, drop, map}
use Rattle.krb_account_texts.specs.Reading.{no_words, words_behind}
use Rattle.krb_account_texts.proofs.words.words_among.Given as goal

-- what the words so far say, with those behind them
abbrev pub invariant-loop-part : goal.invariant-loop-part
invariant-loop-part l = words_behind no_words (map (λ part. part.now) l.parts) ≡ words_behind l.words (map (λ part. part.now) (drop l.part-index l.parts))

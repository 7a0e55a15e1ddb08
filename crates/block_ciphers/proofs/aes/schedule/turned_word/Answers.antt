use Rattle.std.proofs.Common.{◌≡◌, ◌<◌, ◌+◌, ◌-◌, ◌/◌, inl, inr, ap, ◌∙◌, arith}
use Rattle.std.proofs.lemmas.Nat.{div_below}
use Rattle.block_ciphers.specs.Aes.{round_constant}
use Rattle.block_ciphers.proofs.Words.{constant_at, turned_by_constant, turned_by_substitution, not_turned, one_back}
use Rattle.block_ciphers.proofs.aes.schedule.turned_word.Goals as goal
use Rattle.block_ciphers.proofs.aes.schedule.turned_word.Goals.{else-key_words-gt6-via-then-key_words-gt6+else-i-key_words-eq4, else-key_words-gt6-via-else-key_words-gt6}

pub returns-then-i-key_words-eq0 : goal.returns-then-i-key_words-eq0
returns-then-i-key_words-eq0 c =
    let nk = c.args.key_words in
    let i = c.args.i in
    let within : i / nk - 1 < 10 = omega (arith, div_below c.args.i c.args.key_words 11 c.requires.some c.requires.to) in
    let back : i / nk - 1 + 1 ≡ i / nk = one_back i nk c.requires.some c.requires.from in
    c.substituted_word.ensures
    ∙ rw c.to_be_bytes-bytes.ensures (turned_by_constant nk i _ _ _ _ _ c.if-i-key_words-eq0.true (constant_at (i / nk - 1) within ∙ ap round_constant back))

pub returns-then-i-key_words-eq4 : goal.returns-then-i-key_words-eq4
returns-then-i-key_words-eq4 c =
    c.substituted_word-then-i-key_words-eq4.ensures
    ∙ rw c.to_be_bytes-bytes-then-i-key_words-eq4.ensures (turned_by_substitution c.args.key_words c.args.i _ _ _ _ c.if-key_words-gt6.true c.if-i-key_words-eq4.true)

pub returns-else-key_words-gt6 : goal.returns-else-key_words-gt6
returns-else-key_words-gt6 c =
    not_turned c.args.key_words c.args.i _ _ _ _ c.if-i-key_words-eq0.false
    (elim c.else-key_words-gt6.branch [ else-key_words-gt6-via-then-key_words-gt6+else-i-key_words-eq4 w ↦ inr w.if-i-key_words-eq4.false | else-key_words-gt6-via-else-key_words-gt6 w ↦ inl w.if-key_words-gt6.false ])

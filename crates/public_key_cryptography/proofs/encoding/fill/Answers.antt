use Rattle.std.proofs.Common.{◌≡◌, replicate, length, arith, ap, sym, ◌∙◌, [], ◌∷◌, ◌++◌}
use Rattle.std.proofs.lemmas.List.{take_all, take_more_set, replicate_more}
use Rattle.public_key_cryptography.proofs.encoding.fill.Goals as goal

pub loop-k-preserved : goal.loop-k-preserved
loop-k-preserved c =
    take_more_set c.loop-k.octets c.loop-k.k c.args.octet (omega arith) ∙ ap (λ xs. xs ++ c.args.octet ∷ []) c.loop-k.invariant ∙ replicate_more c.loop-k.k c.args.octet

pub returns : goal.returns
returns c =
    sym (take_all c.loop-k.k c.loop-k.octets (omega arith)) ∙ c.loop-k.invariant ∙ ap (λ k. replicate k c.args.octet) (let e : c.loop-k.k ≡ length c.args.octets.now = omega arith in e)

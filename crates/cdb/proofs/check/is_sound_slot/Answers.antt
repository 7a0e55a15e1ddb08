use Rattle.std.proofs.Common.{ℕ, inl, inr}
use Rattle.std.proofs.lemmas.Result.{err_from_is_err_and}
use Rattle.cdb.specs.Find.{pair_at}
use Rattle.cdb.proofs.Judging.{judged, pair_never_long, refused}
use Rattle.cdb.proofs.check.is_sound_slot.Goals as goal

pub returns-in_err-_hash : goal.returns-in_err-_hash
returns-in_err-_hash g c = λ bytes known.
    let p = err_from_is_err_and c.from_residual.result c.from_residual.ensures.1 in
    rw (p.1, p.2) (refused (g.F.ReadAt.fails c.args.file.now) c.in_err-_hash.field-0.0 (pair_at c.args.position bytes) _ _ _ ⊥ (c.in_err-_hash.ensures bytes known)
    (λ cut. inl cut) (pair_never_long c.args.position bytes))

pub returns-then-at-eq0 : goal.returns-then-at-eq0
returns-then-at-eq0 g c = λ bytes known. ((c.in_ok-_hash._hash, c.in_ok-_hash.at), c.in_ok-_hash.ensures bytes known, inl c.if-at-eq0.true)

pub returns : goal.returns
returns g c = λ bytes known.
    let slot : ℕ × ℕ = (c.in_ok-_hash._hash, c.in_ok-_hash.at) in
    let read = c.in_ok-_hash.ensures bytes known in
    judged (g.F.ReadAt.fails c.args.file.now) c.is_sound_record.result _ _ _ ⊥ _ _ _ ⊥ (c.is_sound_record.ensures bytes known)
    (λ own. (slot, read, inr own)) (λ other. (slot, read, c.if-at-eq0.false, other)) (λ cut. inr (slot, read, c.if-at-eq0.false, cut)) (λ long. long)

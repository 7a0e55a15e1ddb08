use Rattle.std.proofs.Common.{◌≡◌, ℕ, ◌+◌, ◌-◌, length, ap, sym, ◌∙◌, inl, inr, arith}
use Rattle.byte_streams.proofs.Exits.{at-exit}
use Rattle.krb_file_formats.specs.Reading.{followed}
use Rattle.krb_file_formats.specs.Formats.{all_at}
use Rattle.krb_file_formats.proofs.ListLaws.{all-left, all-more, all-done, none-left}
use Rattle.krb_file_formats.proofs.credential_caches.items.read_all.Goals as goal

pub returns-then-bytes-next : goal.returns-then-bytes-next
returns-then-bytes-next g c =
    let n = length c.args.bytes.now - c.loop.counter in
    all-done g.T.CacheItem.format c.loop.items.items n c.args.place (length c.args.bytes.now) c.loop.next c.args.bytes.now
    (none-left g.T.CacheItem.format n c.loop.next c.args.bytes.now (omega (arith, c.if-bytes-next.true))) c.loop.invariant

pub returns-in_err-next : goal.returns-in_err-next
returns-in_err-next g c =
    let all = length c.args.bytes.now in
    at-exit _ _ _ _ c.from_residual.ensures.1
    (elim c.in_err-next.ensures [
      | inl memory ↦ inl memory
      | inr wrong ↦ inr (sym c.loop.invariant ∙ ap (followed c.loop.items.items)
          (all-left g.T.CacheItem.format (all - c.loop.counter) (all - (c.loop.counter + 1)) c.loop.next c.args.bytes.now _ (omega (arith, c.loop-test.true))
          (omega (arith, c.if-bytes-next.false)) wrong))
    ])

pub loop-preserved : goal.loop-preserved
loop-preserved g c =
    let all = length c.args.bytes.now in
    let (item, is, grown) = c.in_ok-next.ensures in
    all-more g.T.CacheItem.format _ _ item (all - c.loop.counter) (all - (c.loop.counter + 1)) c.args.place all c.loop.next _ c.args.bytes.now
    (omega (arith, c.loop-test.true)) (omega (arith, c.if-bytes-next.false)) is grown c.loop.invariant

pub returns : goal.returns
returns g c =
    let all = length c.args.bytes.now in
    all-done g.T.CacheItem.format c.loop.items.items (all - c.loop.counter) c.args.place all c.loop.next c.args.bytes.now
    (let past : all - c.loop.counter ≡ 0 = omega (arith, c.loop-test.false) in ap (λ (n : ℕ). all_at g.T.CacheItem.format n c.loop.next c.args.bytes.now) past) c.loop.invariant

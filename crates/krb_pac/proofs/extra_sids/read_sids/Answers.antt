use Rattle.std.proofs.Common.{◌≤◌, length, drop, inl, inr, arith}
use Rattle.std.proofs.lemmas.List.{drop_all}
use Rattle.byte_streams.proofs.Exits.{at-exit}
use Rattle.krb_pac.proofs.ItemLaws.{sids-more, sids-refused, sids-done}
use Rattle.krb_pac.proofs.extra_sids.read_sids.Goals as goal

pub returns-in_err-end : goal.returns-in_err-end
returns-in_err-end c =
    let rows = c.args.rows.now in
    let i = c.loop-row.row-index in
    at-exit _ _ _ _ c.from_residual.ensures.1
    (elim c.in_err-end.ensures [
      | inl memory ↦ inl memory
      | inr wrong ↦ inr (sids-refused rows i (record { attributes = 0 }) c.loop-row.sids.items c.loop-row.end c.args.bytes.now _ _ c.loop-row-test.true wrong c.loop-row.invariant)
    ])

pub loop-row-preserved : goal.loop-row-preserved
loop-row-preserved c =
    let rows = c.args.rows.now in
    let i = c.loop-row.row-index in
    let (sid, is, grown) = c.in_ok-end.ensures in
    sids-more rows i _ _ _ sid c.loop-row.end _ c.args.bytes.now _ grown c.loop-row-test.true is c.loop-row.invariant

pub returns : goal.returns
returns c =
    let rows = c.args.rows.now in
    let i = c.loop-row.row-index in
    let past : length rows ≤ i = omega (arith, c.loop-row-test.false) in
    sids-done (drop i rows) c.loop-row.sids.items c.loop-row.end c.args.bytes.now _ (drop_all i rows past) c.loop-row.invariant

use Rattle.std.proofs.Common.{◌^◌, ◌<◌, length, arith}
use Rattle.asn1_codec.proofs.Chain.{at-exit}
use Rattle.picky_asn1_der.specs.PartLaws.{split-step}
use Rattle.picky_asn1_der.proofs.Splits.{no_split, wanting_behind, wanting_content, splits, whole_of}
use Rattle.picky_asn1_der.proofs.element.split_element.Goals as goal

pub returns-in_err-first : goal.returns-in_err-first
returns-in_err-first c =
    let size : length c.args.input.now < 2 ^ 64 = omega arith in
    at-exit _ _ _ _ c.from_residual.ensures.1 (no_split c.args.input.now _ size c.in_err-first.ensures, c.in_err-first.ensures)

pub returns-in_err-count : goal.returns-in_err-count
returns-in_err-count c =
    let size : length c.args.input.now < 2 ^ 64 = omega arith in
    at-exit _ _ _ _ c.from_residual-in_err-count.ensures.1
    (wanting_behind c.args.input.now c.in_ok-first.behind.now c.in_ok-first.first _ size c.in_ok-first.ensures.1 c.in_ok-first.ensures.0 c.in_err-count.ensures)

pub returns-then-held-count : goal.returns-then-held-count
returns-then-held-count c =
    let size : length c.args.input.now < 2 ^ 64 = omega arith in
    wanting_content c.args.input.now c.in_ok-first.behind.now c.in_ok-count.held.now c.in_ok-first.first c.in_ok-count.count size c.in_ok-first.ensures.1
    c.in_ok-count.ensures.1 c.in_ok-first.ensures.0 c.in_ok-count.ensures.0 c.if-held-count.true

pub invariant_of-element : goal.invariant_of-element
invariant_of-element c =
    let parts = splits c.args.input.now c.in_ok-first.behind.now c.in_ok-count.held.now c.split_at.result.0.now c.split_at.result.1.now c.in_ok-first.first c.in_ok-count.count
    c.in_ok-first.ensures.1 c.in_ok-count.ensures.1 c.split_at.ensures.by_index.0 c.split_at.ensures.front_len in
    (c.in_ok-first.ensures.0, whole_of c.args.input.now _ _ c.split_at.result.1.now parts c.split_at-2.ensures.front)

pub returns : goal.returns
returns c =
    split-step _ _ _ (
      c.in_ok-first.ensures.0,
      splits c.args.input.now c.in_ok-first.behind.now c.in_ok-count.held.now c.split_at.result.0.now c.split_at.result.1.now c.in_ok-first.first c.in_ok-count.count
          c.in_ok-first.ensures.1 c.in_ok-count.ensures.1 c.split_at.ensures.by_index.0 c.split_at.ensures.front_len,
    )

use Rattle.std.proofs.Common.{inl, inr}
use Rattle.krb_realm_files.proofs.Parts.{is_nothing, not_empty, parts_are}
use Rattle.krb_realm_files.proofs.means.parts_of.Goals as goal

pub returns-in_default-split_element-2 : goal.returns-in_default-split_element-2
returns-in_default-split_element-2 c =
    inr (
      c.in-Ok.certificate,
      c.in-Ok.behind.now,
      c.in-Ok.ensures.split,
      inr (
        c.in-Ok-split_element.key,
        c.in-Ok-split_element.last.now,
        c.in-Ok-split_element.ensures.split,
        inl c.in_default-split_element-2.ensures.0,
      ),
    )

pub returns-then-not-is_empty : goal.returns-then-not-is_empty
returns-then-not-is_empty c =
    inr (
      c.in-Ok.certificate,
      c.in-Ok.behind.now,
      c.in-Ok.ensures.split,
      inr (
        c.in-Ok-split_element.key,
        c.in-Ok-split_element.last.now,
        c.in-Ok-split_element.ensures.split,
        inr (
          c.in-Ok-split_element-2.anchor,
          c.in-Ok-split_element-2.rest.now,
          c.in-Ok-split_element-2.ensures.split,
          not_empty c.in-Ok-split_element-2.rest.now _ c.is_empty.ensures c.if-not-is_empty.true,
        ),
      ),
    )

pub returns : goal.returns
returns c =
    parts_are c.args.octets.now c.in-Ok.behind.now c.in-Ok-split_element.last.now c.in-Ok-split_element-2.rest.now c.whole.result.now c.whole-2.result.now c.whole-3.result.now
    c.in-Ok.certificate c.in-Ok-split_element.key c.in-Ok-split_element-2.anchor c.in-Ok.ensures.split c.in-Ok-split_element.ensures.split c.in-Ok-split_element-2.ensures.split
    (is_nothing c.in-Ok-split_element-2.rest.now _ c.is_empty.ensures c.if-not-is_empty.false) c.whole.ensures c.whole-2.ensures c.whole-3.ensures

use Rattle.std.proofs.Common.{◌+◌, ◌-◌, List, length, Option, None, Ok, ap, sym, ◌∙◌, append-nil, inl, inr, arith}
use Rattle.byte_streams.proofs.Exits.{at-exit}
use Rattle.krb_file_formats.specs.Entries.{Entry}
use Rattle.krb_file_formats.specs.Reading.{followed, entries_at}
use Rattle.krb_file_formats.specs.declared.reading.Slot.{Slot}
use Rattle.krb_file_formats.proofs.LoopLaws.{followed-join, entries-left, held-left}
use Rattle.krb_file_formats.proofs.keytab.read_records.Goals as goal

pub returns-in_err-slot : goal.returns-in_err-slot
returns-in_err-slot c =
    let all = length c.args.bytes.now in
    at-exit _ _ _ _ c.from_residual.ensures.1
    (inr (sym c.loop.invariant ∙ ap (followed c.loop.records.items)
    (entries-left (all - c.loop.counter) (all - (c.loop.counter + 1)) c.loop.place c.args.bytes.now _ (omega (arith, c.loop-test.true)) (sym c.in_err-slot.ensures.exact))))

pub returns-in_default : goal.returns-in_default
returns-in_default c =
    let all = length c.args.bytes.now in
    sym c.loop.invariant ∙ ap (followed c.loop.records.items)
    (entries-left (all - c.loop.counter) (all - (c.loop.counter + 1)) c.loop.place c.args.bytes.now (Ok None) (omega (arith, c.loop-test.true))
    (sym c.in_ok-slot.ensures.exact ∙ ap (λ (o : Option Slot). Ok o) c.in_default.is))
    ∙ ap (λ (l : List Entry). Ok l) (append-nil c.loop.records.items)

pub returns-in_err-keep_slot : goal.returns-in_err-keep_slot
returns-in_err-keep_slot c =
    let all = length c.args.bytes.now in
    at-exit _ _ _ _ c.from_residual-in_err-keep_slot.ensures.1
    (elim c.in_err-keep_slot.ensures [
      | inl memory ↦ inl memory
      | inr wrong ↦ inr (sym c.loop.invariant ∙ ap (followed c.loop.records.items)
          (held-left (all - c.loop.counter) (all - (c.loop.counter + 1)) c.loop.place c.in-Some.slot c.args.bytes.now _ (omega (arith, c.loop-test.true))
          (sym c.in_ok-slot.ensures.exact ∙ ap (λ (o : Option Slot). Ok o) c.in-Some.is) wrong))
    ])

pub loop-preserved : goal.loop-preserved
loop-preserved c =
    let all = length c.args.bytes.now in
    let (es, held, grown) = c.in_ok-keep_slot.ensures in
    let rest = entries_at (all - (c.loop.counter + 1)) c.in-Some.slot.end c.args.bytes.now in
    ap (λ (l : List Entry). followed l rest) grown ∙ followed-join c.loop.records.items es rest ∙ ap (followed c.loop.records.items)
    (sym (held-left (all - c.loop.counter) (all - (c.loop.counter + 1)) c.loop.place c.in-Some.slot c.args.bytes.now (Ok es) (omega (arith, c.loop-test.true))
    (sym c.in_ok-slot.ensures.exact ∙ ap (λ (o : Option Slot). Ok o) c.in-Some.is) held))
    ∙ c.loop.invariant

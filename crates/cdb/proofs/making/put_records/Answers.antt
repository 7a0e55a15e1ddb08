use Rattle.std.proofs.Common.{◌≡◌, ◌+◌, ◌++◌, ◌∷◌, [], List, ap, arith, sym, take, ◌∙◌}
use Rattle.std.proofs.lemmas.List.{flat_map_more, take_more}
use Rattle.cdb.specs.declared.records.Record.{Record}
use Rattle.cdb.specs.Database.{record_octets, records_octets}
use Rattle.cdb.proofs.MakingLaws.{within_entries}
use Rattle.cdb.proofs.making.put_records.Goals as goal

pub put_record-requires : goal.put_record-requires
put_record-requires c =
    let within = within_entries c.args.records.now c.loop-one.one-index c.one-item.result c.loop-one-test.true c.one-item.is in
    omega (arith, within)

pub loop-one-preserved : goal.loop-one-preserved
loop-one-preserved c =
    let more : take (c.loop-one.one-index + 1) c.args.records.now ≡ take c.loop-one.one-index c.args.records.now ++ c.one-item.result ∷ []
    = take_more c.args.records.now c.loop-one.one-index c.one-item.result c.loop-one-test.true ∙ ap (λ (r : Record). take c.loop-one.one-index c.args.records.now ++ r ∷ []) (sym c.one-item.is) in
    c.in_ok-put_record.ensures ∙ ap (λ b. b ++ record_octets c.one-item.result) c.loop-one.invariant
    ∙ flat_map_more record_octets c.args.bytes.now.items (take c.loop-one.one-index c.args.records.now) c.one-item.result
    ∙ ap (λ (rs : List Record). c.args.bytes.now.items ++ records_octets rs) (sym more)

use Rattle.std.proofs.Common.{ap, ◌∙◌, nat_cmp}
use Rattle.std.specs.Cmp.Lexicographic.{slice_cmp}
use Rattle.std.proofs.lemmas.List.{get_or_read}
use Rattle.cdb.specs.declared.records.Record.{Record}
use Rattle.cdb.proofs.records.order_at.Goals as goal

pub returns : goal.returns
returns c = λ d.
    c.order_of.ensures ∙ ap (λ (r : Record). slice_cmp nat_cmp r.key.items c.args.key.now)
    (get_or_read c.args.records.now c.args.index c.index-records-index.result c.requires c.index-records-index.is d)

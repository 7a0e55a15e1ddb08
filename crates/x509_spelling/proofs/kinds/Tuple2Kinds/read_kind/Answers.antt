use Rattle.std.specs.Prelude.{IsTrue}
use Rattle.asn1_codec.proofs.Chain.{at-exit}
use Rattle.x509_spelling.proofs.KindRefusals.{first_refused, kind_refused}
use Rattle.x509_spelling.proofs.kinds.Tuple2Kinds.read_kind.Goals as goal

pub returns-in_err-head : goal.returns-in_err-head
returns-in_err-head g c =
    at-exit _ _ _ _ c.from_residual.ensures.1
    (first_refused g.H.SpelledItem.leads g.B.Kinds.spells (λ _ k. IsTrue (g.B.Kinds.belongs c.args.oid.now k)) c.args.content.now _ c.in_err-head.ensures)

pub returns-in_err-tail : goal.returns-in_err-tail
returns-in_err-tail g c =
    at-exit _ _ _ _ c.from_residual-in_err-tail.ensures.1
    (kind_refused g.H.SpelledItem.leads g.B.Kinds.spells (λ _ k. IsTrue (g.B.Kinds.belongs c.args.oid.now k)) c.args.content.now g.H.SpelledItem.field_laws.one
    _ _ _ c.in_ok-head.ensures _ c.in_err-tail.ensures)

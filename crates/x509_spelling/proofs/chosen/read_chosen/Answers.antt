use Rattle.std.specs.Prelude.{IsTrue}
use Rattle.asn1_codec.proofs.Chain.{at-exit}
use Rattle.x509_spelling.specs.Spellings.{Leads}
use Rattle.x509_spelling.specs.FieldLaws.{leads-one}
use Rattle.x509_spelling.proofs.KindRefusals.{first_refused, kind_refused}
use Rattle.x509_spelling.proofs.chosen.read_chosen.Goals as goal

pub returns-in_err-chooser : goal.returns-in_err-chooser
returns-in_err-chooser g c =
    at-exit _ _ _ _ c.from_residual.ensures.1
    (first_refused (Leads g.A.Spelled.spells) g.K.Kinds.spells (λ a k. IsTrue (g.K.Kinds.belongs (g.A.Identified.arcs_of a) k)) c.args.content.now _ c.in_err-chooser.ensures)

pub returns-in_err-fields : goal.returns-in_err-fields
returns-in_err-fields g c =
    let t = g.A.Spelled in
    at-exit _ _ _ _ c.from_residual-in_err-fields.ensures.1
    (kind_refused (Leads t.spells) g.K.Kinds.spells (λ a k. IsTrue (g.K.Kinds.belongs (g.A.Identified.arcs_of a) k)) c.args.content.now
    (leads-one t.has_low_tags t.begun t.written t.spells t.laws) _ _ _ c.in_ok-chooser.ensures _ (rw c.identifier.ensures at c.in_err-fields.ensures))

use Rattle.std.specs.Prelude.{IsTrue}
use Rattle.asn1_codec.proofs.Chain.{at-exit}
use Rattle.x509_spelling.specs.Spellings.{Leads, Joins}
use Rattle.x509_spelling.specs.FieldLaws.{leads-one}
use Rattle.x509_spelling.proofs.KindRefusals.{held_refused, first_refused, kind_refused}
use Rattle.x509_spelling.proofs.chosen.read_chosen_behind.Goals as goal

pub returns-in_err-head : goal.returns-in_err-head
returns-in_err-head g c =
    at-exit _ _ _ _ c.from_residual-in_err-head.ensures.1
    (held_refused (λ f. Joins (Leads g.H.Spelled.spells) (λ d. Joins (Leads g.A.Spelled.spells) g.K.Kinds.spells d.0 d.1) f.0 f.1)
    (λ f. IsTrue (g.K.Kinds.belongs (g.A.Identified.arcs_of f.1.0) f.1.1)) c.args.first c.args.bytes.now c.in_ok-content.content.now c.in_ok-content.ensures _
    (first_refused (Leads g.H.Spelled.spells) (λ d. Joins (Leads g.A.Spelled.spells) g.K.Kinds.spells d.0 d.1)
    (λ h d. IsTrue (g.K.Kinds.belongs (g.A.Identified.arcs_of d.0) d.1)) c.in_ok-content.content.now _ c.in_err-head.ensures))

pub returns-in_err-fields : goal.returns-in_err-fields
returns-in_err-fields g c =
    let t = g.H.Spelled in
    at-exit _ _ _ _ c.from_residual-in_err-fields.ensures.1
    (held_refused (λ f. Joins (Leads t.spells) (λ d. Joins (Leads g.A.Spelled.spells) g.K.Kinds.spells d.0 d.1) f.0 f.1)
    (λ f. IsTrue (g.K.Kinds.belongs (g.A.Identified.arcs_of f.1.0) f.1.1)) c.args.first c.args.bytes.now c.in_ok-content.content.now c.in_ok-content.ensures _
    (kind_refused (Leads t.spells) (λ d. Joins (Leads g.A.Spelled.spells) g.K.Kinds.spells d.0 d.1)
    (λ h d. IsTrue (g.K.Kinds.belongs (g.A.Identified.arcs_of d.0) d.1)) c.in_ok-content.content.now
    (leads-one t.has_low_tags t.begun t.written t.spells t.laws) _ _ _ c.in_ok-head.ensures _ c.in_err-fields.ensures))

pub returns : goal.returns
returns g c = (
  rw (← c.into_value-2.ensures) at c.in_ok-fields.ensures.0,
  (
    c.in_ok-content.content.now,
    (
      c.in_ok-head.rest.now,
      c.in_ok-head.head.count,
      c.in_ok-fields.fields.count,
      rw (← c.into_value.ensures) at c.in_ok-head.ensures,
      rw (← c.into_value-2.ensures) at c.in_ok-fields.ensures.1,
      c.in_ok-count.ensures,
    ),
    c.in_ok-content.ensures,
  ),
)

use Rattle.std.specs.Prelude.{true, IsTrue}
use Rattle.asn1_der.specs.Firsts.{only}
use Rattle.asn1_codec.proofs.Chain.{at-exit}
use Rattle.x509_spelling.specs.Spellings.{IsExact, Leads, Joins}
use Rattle.x509_spelling.specs.FieldLaws.{leads-one}
use Rattle.x509_spelling.specs.OidLaws.{oid_tree, oid_laws}
use Rattle.x509_spelling.proofs.KindRefusals.{first_refused, kind_refused, held_refused}
use Rattle.x509_spelling.proofs.identified.read_identified.Goals as goal

pub returns-in_err-oid : goal.returns-in_err-oid
returns-in_err-oid g c =
    at-exit _ _ _ _ c.from_residual-in_err-oid.ensures.1
    (held_refused (λ f. Joins (Leads (IsExact oid_tree)) g.K.Kinds.spells f.0 f.1) (λ f. IsTrue (g.K.Kinds.belongs f.0.0 f.1)) c.args.first c.args.bytes.now
    c.in_ok-content.content.now c.in_ok-content.ensures _
    (first_refused (Leads (IsExact oid_tree)) g.K.Kinds.spells (λ o k. IsTrue (g.K.Kinds.belongs o.0 k)) c.in_ok-content.content.now _ c.in_err-oid.ensures))

pub returns-in_err-kind : goal.returns-in_err-kind
returns-in_err-kind g c =
    at-exit _ _ _ _ c.from_residual-in_err-kind.ensures.1
    (held_refused (λ f. Joins (Leads (IsExact oid_tree)) g.K.Kinds.spells f.0 f.1) (λ f. IsTrue (g.K.Kinds.belongs f.0.0 f.1)) c.args.first c.args.bytes.now
    c.in_ok-content.content.now c.in_ok-content.ensures _
    (kind_refused (Leads (IsExact oid_tree)) g.K.Kinds.spells (λ o k. IsTrue (g.K.Kinds.belongs o.0 k)) c.in_ok-content.content.now
    (leads-one true (only 6) oid_tree (IsExact oid_tree) oid_laws) _ _ _ c.in_ok-oid.ensures _ c.in_err-kind.ensures))

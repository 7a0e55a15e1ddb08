use Rattle.std.specs.Prelude.{IsTrue}
use Rattle.asn1_codec.proofs.Chain.{at-exit}
use Rattle.x509_spelling.specs.Spellings.{Leads, Joins}
use Rattle.x509_spelling.proofs.KindRefusals.{held_refused}
use Rattle.x509_spelling.proofs.chosen.read_chosen_in.Goals as goal

pub returns-in_err-read : goal.returns-in_err-read
returns-in_err-read g c =
    at-exit _ _ _ _ c.from_residual-in_err-read.ensures.1
    (held_refused (λ f. Joins (Leads g.A.Spelled.spells) g.K.Kinds.spells f.0 f.1) (λ f. IsTrue (g.K.Kinds.belongs (g.A.Identified.arcs_of f.0) f.1)) c.args.first c.args.bytes.now
    c.in_ok-content.content.now c.in_ok-content.ensures _ c.in_err-read.ensures)

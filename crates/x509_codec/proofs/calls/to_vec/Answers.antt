use Rattle.x509_spelling.proofs.Rewriting.{written-strict}
use Rattle.x509_codec.proofs.calls.to_vec.Goals as goal

pub returns-in-Ok-clause-strict : goal.returns-in-Ok-clause-strict
returns-in-Ok-clause-strict g c =
    let t = g.T.Spelled in
    written-strict t.has_low_tags t.begun t.written t.spells t.laws g.T.Serialize.tree g.met.T.Spelled.written_is _ _ c.in-Ok.ensures.bytes

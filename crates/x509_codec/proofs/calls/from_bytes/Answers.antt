use Rattle.x509_spelling.proofs.Rewriting.{rewriting}
use Rattle.x509_codec.proofs.calls.from_bytes.Goals as goal

pub returns-clause-rewriting : goal.returns-clause-rewriting
returns-clause-rewriting g c =
    let t = g.T.Spelled in
    rewriting t.has_low_tags t.begun t.written t.spells t.laws g.T.Serialize.tree g.met.T.Spelled.written_is _ _

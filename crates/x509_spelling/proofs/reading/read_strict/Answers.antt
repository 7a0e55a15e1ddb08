use Rattle.asn1_codec.proofs.Chain.{at-exit, refused-as}
use Rattle.x509_spelling.proofs.StrictLemmas.{strict_raw, strict_refused}
use Rattle.x509_spelling.proofs.reading.read_strict.Goals as goal

pub returns-in_err-raw : goal.returns-in_err-raw
returns-in_err-raw g c =
    let t = g.T.Spelled in
    at-exit _ _ _ _ c.from_residual.ensures.1
    (refused-as _ _ _ _ _ c.in_err-raw.ensures
    (strict_raw t.has_low_tags t.begun t.written t.spells t.laws g.T.Serialize.tree g.met.T.Spelled.written_is c.requires))

pub returns : goal.returns
returns g c =
    let t = g.T.Spelled in
    strict_refused t.has_low_tags t.begun t.written t.spells t.laws g.T.Serialize.tree g.met.T.Spelled.written_is
    c.in_ok-raw.raw c.as_bytes.result.now _ _ _ _ _ c.in_ok-raw.ensures c.as_bytes.ensures c.refuse.ensures.after c.refuse.ensures.fault c.in-Err.ensures

use Rattle.x509_codec.proofs.SignedLemmas.{spelled_by, reads_at_exit, some_whole, some_part, signed_part}
use Rattle.x509_codec.proofs.signed.with_signed_part.Goals as goal

pub returns-in_err-value-clause-value : goal.returns-in_err-value-clause-value
returns-in_err-value-clause-value g c = reads_at_exit g.T.Spelled.spells c.args.bytes.now _ _ c.from_residual.ensures.1 c.in_err-value.ensures.value

pub returns-in_err-whole-clause-value : goal.returns-in_err-whole-clause-value
returns-in_err-whole-clause-value g c =
    let t = g.T.Part.Spelled in
    let s = spelled_by g.T.Spelled.spells c.args.bytes.now c.in_ok-value.value c.in_ok-value.ensures.value in
    absurd (some_whole t.has_low_tags t.begun t.written t.spells t.laws _ c.args.bytes.now s.0 (g.met.T.Signed.holds_part c.in_ok-value.value c.args.bytes.now s.0 s.1)
    c.in_err-whole.ensures.0)

pub returns-in_err-part-clause-value : goal.returns-in_err-part-clause-value
returns-in_err-part-clause-value g c =
    let t = g.T.Part.Spelled in
    let s = spelled_by g.T.Spelled.spells c.args.bytes.now c.in_ok-value.value c.in_ok-value.ensures.value in
    absurd (some_part t.has_low_tags t.begun t.written t.spells t.laws _ c.args.bytes.now s.0 (g.met.T.Signed.holds_part c.in_ok-value.value c.args.bytes.now s.0 s.1)
    c.in_ok-whole.whole c.in_ok-whole.field-0-1.now c.in_ok-whole.ensures c.content.result.now c.content.ensures c.in_err-part.ensures.0)

pub returns-clause-part : goal.returns-clause-part
returns-clause-part g c =
    let t = g.T.Part.Spelled in
    let s = spelled_by g.T.Spelled.spells c.args.bytes.now c.in_ok-value.value c.in_ok-value.ensures.value in
    signed_part t.has_low_tags t.begun t.written t.spells t.laws _ c.args.bytes.now s.0 (g.met.T.Signed.holds_part c.in_ok-value.value c.args.bytes.now s.0 s.1)
    c.in_ok-whole.whole c.in_ok-whole.field-0-1.now c.in_ok-whole.ensures g.T.Part.Serialize.tree g.met.T.Part.Spelled.written_is c.content.result.now c.content.ensures
    c.in_ok-part.part c.in_ok-part.field-0-1.now c.in_ok-part.ensures c.whole.result.now c.whole.ensures

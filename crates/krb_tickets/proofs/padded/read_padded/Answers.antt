use Rattle.std.proofs.Common.{inr, sym, ◌∙◌}
use Rattle.std.proofs.lemmas.Bool.{false≢true}
use Rattle.asn1_der.specs.Seen.{Alike}
use Rattle.krb_tickets.proofs.PaddedTexts.{none_padded, refused_padded, value_padded}
use Rattle.krb_tickets.proofs.padded.read_padded.Goals as goal

pub returns-then-is_padding : goal.returns-then-is_padding
returns-then-is_padding g c =
    let read = c.in-Ok.ensures.value in
    value_padded c.args.text.now read.0 _ _ _ read.3 c.split_at.ensures.front c.split_at.ensures.back g.T.Serialize.tree c.args.suite c.in-Ok.value read.1
    (c.is_padding.ensures.0 c.if-is_padding.true)

pub returns-else-is_padding : goal.returns-else-is_padding
returns-else-is_padding g c =
    let read = c.in-Ok.ensures.value in
    inr (none_padded c.args.text.now read.0 _ _ _ read.3 c.split_at.ensures.front c.split_at.ensures.back (Alike g.T.Serialize.seen) g.T.Serialize.tree g.T.Serialize.injective c.args.suite c.in-Ok.value read.1
    (λ whole. false≢true (sym c.if-is_padding.false ∙ c.is_padding.ensures.1 whole)))

pub returns-in-Err : goal.returns-in-Err
returns-in-Err g c =
    refused_padded g.T.Serialize.tree c.args.suite c.args.text.now c.in-Err.fault c.in-Err.ensures.count c.in-Err.ensures.fault

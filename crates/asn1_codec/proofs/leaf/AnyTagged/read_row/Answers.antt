use Rattle.std.proofs.Common.{sym, ◌∙◌}
use Rattle.asn1_codec.proofs.Chain.{at-exit, refused-memory}
use Rattle.asn1_codec.proofs.Leaves.{refused-element, refused-content}
use Rattle.asn1_codec.proofs.leaf.AnyTagged.read_row.Goals as goal

pub returns-in_err-content : goal.returns-in_err-content
returns-in_err-content g c =
    at-exit _ _ _ _ c.from_residual.ensures.1
    (refused-element g.T.Leaf.is_valid c.args.tag g.T.Leaf.content_of _ _ _ c.in_err-content.ensures)

pub returns-in-Err : goal.returns-in-Err
returns-in-Err g c =
    refused-memory _ _ _ _ _ _ c.in_ok-content.ensures c.refuse.ensures.after c.refuse.ensures.fault

pub returns-in_default : goal.returns-in_default
returns-in_default g c =
    let none = rw c.in_default.is at c.in-Ok.ensures in
    refused-content g.T.Leaf.is_valid c.args.tag g.T.Leaf.content_of c.in_ok-content.content _ _ _ _ _ c.in_ok-content.ensures
    c.refuse-in_default.ensures.after c.refuse-in_default.ensures.fault tt
    (λ value valid e. none value valid (e ∙ sym c.as_bytes.ensures))

use Rattle.std.proofs.Common.{ℕ, List, ap, ◌∙◌}
use Rattle.picky_asn1_der.specs.Raw.{Raw}
use Rattle.cms_signed_data.proofs.AroundLemmas.{raw_written}
use Rattle.cms_signed_data.proofs.assembling.element_of.Goals as goal

abbrev made : ℕ → List ℕ → Raw
made first content = record { first = first; content = content }

pub returns : goal.returns
returns c =
    raw_written c.in-Some.raw c.args.first c.args.content.now (c.in-Some.ensures ∙ ap (λ (l : List ℕ). made c.args.first l) c.in_ok-content.ensures.items) c.requires
    c.in_ok-bytes.bytes.items c.in_ok-bytes.ensures

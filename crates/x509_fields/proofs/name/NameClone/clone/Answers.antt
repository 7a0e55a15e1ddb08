use Rattle.std.proofs.Common.{◌∙◌}
use Rattle.std.proofs.lemmas.List.Elements.{same_from_all_zip}
use Rattle.x509_fields.proofs.name.NameClone.clone.Goals as goal

pub returns : goal.returns
returns c = record { cases = same_from_all_zip _ _ _ c.in_ok-sets.ensures.cases.0 (λ a b same. same_from_all_zip _ _ _ same (λ x y e. e)) ∙ c.self.view_is }

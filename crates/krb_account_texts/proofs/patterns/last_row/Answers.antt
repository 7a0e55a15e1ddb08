use Rattle.std.proofs.Common.{true, List, [], ◌∷◌, ◌++◌, Bool, ap, ◌∙◌}
use Rattle.krb_account_texts.proofs.Rows.{last-row}
use Rattle.krb_account_texts.proofs.patterns.last_row.Goals as goal

pub returns : goal.returns
returns c = last-row c.args.name.now c.push.new.self.items (c.in_ok-push.ensures.items ∙ ap (λ (row : List Bool). row ++ true ∷ []) (c.in_ok-row.ensures.items_if_clones_equal (λ y same. same)))

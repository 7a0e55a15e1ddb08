use Rattle.std.proofs.Common.{ℕ, List, Bor, option_map, ap, ◌∙◌}
use Rattle.krb_constants.proofs.Rows.{shown_name}
use Rattle.krb_constants.proofs.error_names.name_in.Goals as goal

pub returns-in-Some : goal.returns-in-Some
returns-in-Some c = ap (option_map (λ (row : ℕ × Bor (List ℕ)). row.1.now)) c.in-Some.ensures ∙ shown_name c.args.rows.now c.args.code

pub returns-in-None : goal.returns-in-None
returns-in-None c = ap (option_map (λ (row : ℕ × Bor (List ℕ)). row.1.now)) c.in-None.ensures ∙ shown_name c.args.rows.now c.args.code

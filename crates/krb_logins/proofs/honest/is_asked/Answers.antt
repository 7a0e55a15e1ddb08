use Rattle.std.proofs.Common.{rules, ◌≡◌, true, false, sym, subst, ◌∙◌}
use Rattle.krb_messages.specs.Names.{is_same_name}
use Rattle.krb_realm_accounts.specs.Names.{are_components, parts}
use Rattle.krb_logins.proofs.Names.{equal_names, same_name}
use Rattle.krb_logins.proofs.honest.is_asked.Goals as goal

pub returns-in-Ok : goal.returns-in-Ok
returns-in-Ok c =
    let asked = parts c.args.asked.now in
    let name = c.args.name.now in
    let is : c.is_same_name.result ≡ is_same_name asked name = search rules in
    ((λ same. equal_names asked name (sym is ∙ same)), λ named. is ∙ same_name asked name named)

pub returns-in-Err-BadName : goal.returns-in-Err-BadName
returns-in-Err-BadName c =
    let none : are_components (parts c.args.asked.now) ≡ false = search rules in
    ((λ never. absurd (cc (never))), λ named. sym none ∙ subst (λ name. are_components name ≡ true) (sym named) c.requires)

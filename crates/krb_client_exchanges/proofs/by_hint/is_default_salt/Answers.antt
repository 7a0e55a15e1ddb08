use Rattle.std.proofs.Common.{nat_eq, ◌++◌, List, ℕ, ap, sym, ◌∙◌}
use Rattle.std.specs.Cmp.Lexicographic.{pointwise}
use Rattle.std.specs.List.{flat_map}
use Rattle.std.proofs.lemmas.Bool.Decides.{Decides-eqb}
use Rattle.std.proofs.lemmas.Slice.Eq.{strip_prefix_is}
use Rattle.krb_realm_accounts.specs.Names.{parts}
use Rattle.krb_client_exchanges.proofs.Salts.{no_front, same_front}
use Rattle.krb_client_exchanges.proofs.by_hint.is_default_salt.Goals as goal

pub returns-in-Some : goal.returns-in-Some
returns-in-Some c =
    let begins = rw c.in-Some.is at (strip_prefix_is Decides-eqb c.args.octets.now c.args.realm.now c.strip_prefix.result c.strip_prefix.ensures.cases) in
    let all : List ℕ = flat_map (λ component. component) (parts c.args.name.now) in
    c.are_joined.ensures ∙ sym (same_front c.args.realm.now c.in-Some.rest.now all) ∙ ap (λ s. pointwise nat_eq s (c.args.realm.now ++ all)) (sym begins)

pub returns-in-None : goal.returns-in-None
returns-in-None c =
    let never = rw c.in-None.is at (strip_prefix_is Decides-eqb c.args.octets.now c.args.realm.now c.strip_prefix.result c.strip_prefix.ensures.cases) in
    sym (no_front c.args.octets.now c.args.realm.now (flat_map (λ component. component) (parts c.args.name.now)) never)

use Rattle.std.proofs.Common.{◌∷◌, ap, ◌∙◌, arith}
use Rattle.std.proofs.lemmas.List.{take_all}
use Rattle.krb_realm_accounts.specs.Packed.{packed}
use Rattle.krb_service.proofs.Packing.{is_packed, names_of}
use Rattle.krb_service.proofs.pair.Pair.new.Goals as goal

pub invariant_of-result : goal.invariant_of-result
invariant_of-result c =
    let all = take_all c.loop-component.component-index c.args.components.now (omega (arith, c.loop-component-test.false)) in
    is_packed _ c.args.realm.now c.args.components.now (c.loop-component.invariant ∙ ap (λ components. packed (c.args.realm.now ∷ components)) all)

pub returns : goal.returns
returns c =
    let all = take_all c.loop-component.component-index c.args.components.now (omega (arith, c.loop-component-test.false)) in
    names_of _ c.args.realm.now c.args.components.now c.args.time (c.loop-component.invariant ∙ ap (λ components. packed (c.args.realm.now ∷ components)) all)

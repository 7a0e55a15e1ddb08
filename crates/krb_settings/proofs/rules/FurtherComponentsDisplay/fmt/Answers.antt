use Rattle.std.proofs.Common.{◌∷◌, ◌++◌, [], Some, is_ok, take, ap, sym, ◌∙◌}
use Rattle.std.specs.Fmt.{◌++?◌, comma_space, debug_items}
use Rattle.std.proofs.Debugs.{shows_from, shows_then}
use Rattle.std.proofs.lemmas.List.{take_more}
use Rattle.krb_settings.specs.Messages.{component_text}
use Rattle.krb_settings.proofs.Items.{items_more}
use Rattle.krb_settings.proofs.rules.FurtherComponentsDisplay.fmt.Goals as goal

pub loop-component-preserved : goal.loop-component-preserved
loop-component-preserved g c = λ plain.
    let components = c.args.self.now.0.now in
    let i = c.loop-component.component-index in
    let x = c.component-item.result in
    let one = Some comma_space ++? component_text x in
    let more = take_more components i x c.loop-component-test.true ∙ ap (λ y. take i components ++ y ∷ []) (sym c.component-item.is) in
    rw (more, items_more component_text (take i components) x)
    (shows_then _ _ _ _ (debug_items component_text comma_space (take i components)) one (c.loop-component.invariant plain)
    (λ now_plain. shows_from _ _ _ c.write.result one c.write.ensures.writes now_plain (ap is_ok c.in_ok-write.was)))

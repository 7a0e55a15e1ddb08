use Rattle.std.proofs.Common.{◌≡◌, ℕ, get_or, List, [], ◌∷◌, ◌++◌, Ok, map, Vec, Global, sym, ◌∙◌}
use Rattle.std.proofs.lemmas.List.{map-append}
use Rattle.toml.specs.View.{view}
use Rattle.krb_settings.specs.Fields.{text_of}
use Rattle.krb_settings.specs.declared.field.Field.TheVariants.{Name}
use Rattle.krb_settings.proofs.Lists.{so_far-more}
use Rattle.krb_settings.proofs.account.texts_of.Goals as goal

pub loop-value-preserved : goal.loop-value-preserved
loop-value-preserved c =
    let done : List (List ℕ) = map (λ part. part.items) c.loop-value.texts.items in
    let copied = c.in_ok-from_slice.ensures.items ∙ c.as_bytes.ensures.value in
    let grown : map (λ part. part.items) c.push.new.self.items ≡ done ++ c.in_ok-text.text.now ∷ [] =
    rw (c.in_ok-push.ensures.items, ← copied)
    (map-append (λ (part : Vec ℕ Global). part.items) c.loop-value.texts.items (c.in_ok-from_slice.field-0 ∷ [])) in
    let given : text_of Name (view (get_or c.args.values.now c.loop-value.value-index c.value-item.result)) ≡ Ok c.in_ok-text.text.now =
    rw (← c.value-item.is) (sym c.in_ok-text.ensures) in
    rw grown (so_far-more (λ _. text_of Name) 0 c.args.values.now c.loop-value.value-index c.value-item.result done c.in_ok-text.text.now
    c.loop-value-test.true given c.loop-value.invariant)

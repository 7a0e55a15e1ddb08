use Rattle.std.proofs.Common.{◌∷◌, take}
use Rattle.std.specs.List.{flat_map}
use Rattle.std.specs.Fmt.{HasWritten, IsPlainFormatter}
use Rattle.krb_messages.specs.NameText.{component_text}
use Rattle.krb_messages.proofs.data_types.name_text.FurtherComponentsDisplay.fmt.Given as goal

abbrev pub invariant-loop-component : goal.invariant-loop-component
invariant-loop-component g l =
    IsPlainFormatter l.initial.f → HasWritten g.W.Write.write_str_gives l.initial.f (flat_map (λ component. 47 ∷ component_text component) (take l.component-index l.self.0.now)) l.f

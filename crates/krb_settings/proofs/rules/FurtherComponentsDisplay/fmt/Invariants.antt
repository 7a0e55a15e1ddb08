use Rattle.std.proofs.Common.{codes, take}
use Rattle.std.specs.Fmt.{IsPlainFormatter, debug_items}
use Rattle.std.proofs.Debugs.{Shows}
use Rattle.krb_settings.specs.Messages.{component_text}
use Rattle.krb_settings.proofs.rules.FurtherComponentsDisplay.fmt.Given as goal

abbrev pub invariant-loop-component : goal.invariant-loop-component
invariant-loop-component g l =
    IsPlainFormatter l.initial.f → Shows g.W.Write.write_str_gives l.initial.f (debug_items component_text (codes ", ") (take l.component-index l.self.0.now)) l.f

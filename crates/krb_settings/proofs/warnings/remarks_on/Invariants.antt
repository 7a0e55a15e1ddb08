use Rattle.std.proofs.Common.{◌≡◌, map, take, string_bytes}
use Rattle.krb_settings.specs.Messages.{found_text}
use Rattle.krb_settings.specs.declared.remark.Remark.{Remark}
use Rattle.krb_settings.proofs.warnings.remarks_on.Given as goal

abbrev pub invariant-loop-warning : goal.invariant-loop-warning
invariant-loop-warning l = map (λ (remark : Remark). string_bytes remark.text) l.remarks.items ≡ map found_text (take l.warning-index l.found)

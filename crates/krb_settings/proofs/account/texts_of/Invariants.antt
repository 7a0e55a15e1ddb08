use Rattle.std.proofs.Common.{map}
use Rattle.krb_settings.specs.Fields.{text_of}
use Rattle.krb_settings.specs.declared.field.Field.TheVariants.{Name}
use Rattle.krb_settings.proofs.Lists.{IsSoFar}
use Rattle.krb_settings.proofs.account.texts_of.Given as goal

abbrev pub invariant-loop-value : goal.invariant-loop-value
invariant-loop-value l = IsSoFar (λ _. text_of Name) 0 l.values l.value-index (map (λ part. part.items) l.texts.items)

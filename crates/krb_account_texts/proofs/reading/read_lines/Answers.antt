use Rattle.std.proofs.Common.{ℕ, List, map, ap, subst, ◌∙◌}
use Rattle.krb_account_texts.specs.Lines.{written}
use Rattle.krb_account_texts.specs.Reading.{lines_in, lines_of}
use Rattle.krb_account_texts.specs.Steps.{IsAside}
use Rattle.krb_account_texts.specs.declared.fault.TextFault.TheVariants as text_fault
use Rattle.krb_account_texts.proofs.reading.read_lines.Goals as goal

pub returns : goal.returns
unfolding lines_in
returns c =
    subst (λ (texts : List (List ℕ)). IsAside text_fault.Memory (λ v. map written v.items) (lines_of texts) c.read_split.result)
    (ap (map (λ part. part.now)) c.as_slice-split.ensures.value ∙ c.in_ok-parts.ensures) c.read_split.ensures

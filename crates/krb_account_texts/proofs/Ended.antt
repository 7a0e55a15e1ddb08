-- The lines of the parts between line feeds.
use Rattle.std.proofs.Common.{◌≡◌, ℕ, ◌-◌, Bool, true, cond, List, length, take, map, Result, Err, ap, sym, subst, ◌∙◌}
use Rattle.std.proofs.lemmas.List.{length-map, take-map}
use Rattle.krb_account_texts.specs.Lines.{WrittenLine}
use Rattle.krb_account_texts.specs.Reading.{is_ended, lines_of, numbered}
use Rattle.krb_account_texts.specs.Steps.{IsAside, each_from}
use Rattle.krb_account_texts.specs.declared.fault.TextFault.{TextFault}
use Rattle.krb_account_texts.specs.declared.fault.TextFault.TheVariants as text_fault

pub ended-aside : {A P : Type 0} (shown : A → List WrittenLine) (text : P → List ℕ) (parts front : List P) (r : Result A TextFault)
    → is_ended (map text parts) ≡ true → front ≡ take (length parts - 1) parts
    → IsAside text_fault.Memory shown (each_from numbered 1 (map text front)) r → IsAside text_fault.Memory shown (lines_of (map text parts)) r
ended-aside shown text parts front r ended is read =
    let texts : List (List ℕ) = map text parts in
    let same : map text front ≡ take (length texts - 1) texts =
    ap (map text) is ∙ sym (take-map text (length parts - 1) parts) ∙ ap (λ (n : ℕ). take (n - 1) texts) (sym (length-map parts text)) in
    let whole : lines_of texts ≡ each_from numbered 1 (map text front) =
    ap (λ (b : Bool). cond b (each_from numbered 1 (take (length texts - 1) texts)) (Err (text_fault.NoEnd (length texts)))) ended ∙ ap (each_from numbered 1) (sym same) in
    subst (λ (wanted : Result (List WrittenLine) TextFault). IsAside text_fault.Memory shown wanted r) (sym whole) read

-- A text without the mark that it begins with.
use Rattle.std.proofs.Common.{◌≡◌, ℕ, nat_eq, true, false, List, length, drop, Option, None, Some, MatchOption, sym, subst, ap, ◌∙◌}
use Rattle.std.specs.List.{starts_with}
use Rattle.std.specs.Str.{IsCharBoundary}
use Rattle.std.specs.Str.Pattern.{FindsTextPrefix, StripsPrefix}
use Rattle.std.proofs.lemmas.Str.Pattern.{starts_text}
use denote.Ref.{Bor}

pub stripped : (mark text : List ℕ) (r : Option (Bor (List ℕ))) → MatchOption r (FindsTextPrefix mark text None) (λ x. StripsPrefix (FindsTextPrefix mark) text x.now)
    → MatchOption r (starts_with nat_eq text mark ≡ false) (λ rest. (starts_with nat_eq text mark ≡ true) × (rest.now ≡ drop (length mark) text))
stripped mark text None lacks = sym (starts_text false mark text lacks)
stripped mark text (Some x) (n, finds, is, size) = (sym (starts_text true mark text (n, finds, subst (λ (k : ℕ). IsCharBoundary text k) (sym finds.0) finds.2)), is ∙ ap (λ (k : ℕ). drop k text) finds.0)

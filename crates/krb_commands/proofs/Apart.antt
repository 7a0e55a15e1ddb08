-- Arguments that are taken apart one after the other.
use Rattle.std.proofs.Common.{◌≡◌, ℕ, ◌+◌, ◌<◌, ◌||◌, List, [], ◌∷◌, map, drop, length, get_or, Option, Result, Ok, Err, refl, ap, sym, subst, ◌∙◌}
use Rattle.std.specs.Prelude.{nat_eq, IfErr}
use Rattle.std.specs.Borrow.{Bor}
use Rattle.std.specs.Cmp.Lexicographic.{pointwise}
use Rattle.std.specs.List.{list_any}
use Rattle.std.specs.Result.{IsErrAnd}
use Rattle.std.proofs.lemmas.List.{at_drop_more}
use Rattle.krb_commands.specs.Arguments.{IsStopOf, Parts, Text, is_among, parts_after, texts}
use Rattle.krb_commands.specs.declared.stop.Stop.{Stop}

-- another text that is the same expects the same
pub stops_where : {T : Type 0} (expected other : Result T Text) (stop : Stop) → other ≡ expected → IsStopOf other stop → IsStopOf expected stop
stops_where {T} expected other stop same there = subst (λ (own : Result T Text). IsStopOf own stop) same there

-- a `?` hands on the stop that it was given
pub if-exit : {T : Type 0} (r : Result T Stop) (stop : Stop) (Q : Stop → Type 0) → IsErrAnd r (λ own. own ≡ stop) → Q stop → IfErr r Q
if-exit (Ok x) stop Q is q = tt
if-exit (Err own) stop Q is q = subst Q (sym is) q

-- an argument is looked for among borrowed texts
pub any-texts : (argument : Text) (borrowed : List (Bor Text)) → list_any (λ (name : Bor Text). pointwise nat_eq name.now argument) borrowed ≡ is_among (texts borrowed) argument
any-texts argument [] = refl
any-texts argument (name ∷ borrowed) = ap (λ others. pointwise nat_eq name.now argument || others) (any-texts argument borrowed)

-- the next argument is the one at this place
pub at_next : {S : Type 0} (says : S → Text) (options : List Text) (before : Parts) (pending : Option Text) (arguments : List S) (place : ℕ) (d : S) (text : Text)
    → place < length arguments → d ≡ get_or arguments place d → text ≡ says d
    → parts_after options before pending (text ∷ map says (drop (place + 1) arguments)) ≡ parts_after options before pending (map says (drop place arguments))
at_next {S} says options before pending arguments place d text inside is same =
    ap (λ (own : Text). parts_after options before pending (own ∷ map says (drop (place + 1) arguments))) (same ∙ ap says is)
    ∙ sym (at_drop_more (λ (more : List S). parts_after options before pending (map says more)) arguments place d inside)

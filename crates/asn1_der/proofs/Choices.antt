-- Alternatives that are distinguished by their first octets.
use Rattle.std.proofs.Common.{◌≡◌, ℕ, true, List, [], ◌∷◌, ◌++◌, sym, ap, ◌∙◌}
use Rattle.std.proofs.lemmas.List.{append-nil}
use Rattle.asn1_der.specs.Tree.{Tree, primitive, constructed, absent, der, IsWhole}
use Rattle.asn1_der.specs.Firsts.{Firsts, either, apart, BeginsAmong}
use Rattle.asn1_der.proofs.Spelling.{IsInjective, der-begins, der-first}
use Rattle.asn1_der.proofs.Rows.{may_begin-either_left, may_begin-either_right, apart-none}

-- what begins with one of some octets begins with one of more
pub begins-either_left : (firsts others : Firsts) (t : Tree) → BeginsAmong firsts t → BeginsAmong (either firsts others) t
begins-either_left firsts others (primitive first content) begins = may_begin-either_left firsts others first begins
begins-either_left firsts others (constructed first parts) begins = may_begin-either_left firsts others first begins
begins-either_left firsts others absent begins = tt

pub begins-either_right : (firsts others : Firsts) (t : Tree) → BeginsAmong others t → BeginsAmong (either firsts others) t
begins-either_right firsts others (primitive first content) begins = may_begin-either_right firsts others first begins
begins-either_right firsts others (constructed first parts) begins = may_begin-either_right firsts others first begins
begins-either_right firsts others absent begins = tt

-- trees that begin with others' octets are spelled otherwise
pub apart-spelled : (firsts others : Firsts) → apart firsts others ≡ true → (t u : Tree) → BeginsAmong firsts t → BeginsAmong others u
    → IsWhole t → IsWhole u → der t ≡ der u → ⊥
apart-spelled firsts others distinct t u begins also whole other e =
    let front = der-first t whole in
    let text : der t ++ [] ≡ front.octet ∷ front.rest = append-nil (der t) ∙ front.is in
    apart-none firsts others front.octet distinct
    (der-begins firsts t whole begins front.octet front.rest [] text)
    (der-begins others u other also front.octet front.rest [] (ap (λ (l : List ℕ). l ++ []) (sym e) ∙ text))

-- values that are distinguished by others, of which no two are spelled alike
pub injective_as : {C T : Type 0} (tree : C → Tree) → IsInjective tree → (choice : T → C) (made : C → T) → ((v : T) → made (choice v) ≡ v)
    → IsInjective (λ v. tree (choice v))
injective_as tree one choice made back v w whole also e =
    sym (back v) ∙ ap made (one (choice v) (choice w) whole also e) ∙ back w

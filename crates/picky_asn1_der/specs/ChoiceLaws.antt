-- What a choice begins with, and that no two are spelled alike.
use Rattle.std.proofs.Common.{◌≡◌, true, sym, ap}
use Rattle.asn1_der.specs.Tree.{Tree}
use Rattle.asn1_der.specs.Firsts.{Firsts, either, apart}
use Rattle.asn1_der.specs.Seen.{Seen, as_is, by, Alike}
use Rattle.asn1_der.proofs.Spelling.{IsInjectiveAs}
use Rattle.asn1_der.proofs.Rows.{AllBeginAmong}
use Rattle.asn1_der.proofs.Choices.{begins-either_left, begins-either_right, apart-spelled}
use Rattle.picky_asn1_der.specs.declared.choice.Choice.TheVariants.{This, Other}
use Rattle.picky_asn1_der.specs.Choices.{choice_tree, seen_choice}

alike-this : {A B : Type 0} (s : Seen A) (t : Seen B) (a b : A) → Alike s a b → Alike (seen_choice s t) (This a) (This b)
alike-this as_is as_is a b e = ap This e
alike-this as_is (by W g) a b e = ap This e
alike-this (by V f) as_is a b e = ap This e
alike-this (by V f) (by W g) a b e = ap This e

alike-other : {A B : Type 0} (s : Seen A) (t : Seen B) (a b : B) → Alike t a b → Alike (seen_choice s t) (Other a) (Other b)
alike-other as_is as_is a b e = ap Other e
alike-other as_is (by W g) a b e = ap Other e
alike-other (by V f) as_is a b e = ap Other e
alike-other (by V f) (by W g) a b e = ap Other e

module _ {A B : Type 0} (tree : A → Tree) (others : B → Tree) (firsts rest : Firsts)
    (begins : AllBeginAmong firsts tree) (also : AllBeginAmong rest others) where
  pub choice-begins : AllBeginAmong (either firsts rest) (choice_tree tree others)
  choice-begins (This a) = begins-either_left firsts rest (tree a) (begins a)
  choice-begins (Other b) = begins-either_right firsts rest (others b) (also b)

  pub choice-injective_as : (s : Seen A) (t : Seen B) → apart firsts rest ≡ true → IsInjectiveAs (Alike s) tree → IsInjectiveAs (Alike t) others → IsInjectiveAs (Alike (seen_choice s t)) (choice_tree tree others)
  choice-injective_as s t distinct one other (This a) (This b) whole second e = alike-this s t a b (one a b whole second e)
  choice-injective_as s t distinct one other (Other a) (Other b) whole second e = alike-other s t a b (other a b whole second e)
  choice-injective_as s t distinct one other (This a) (Other b) whole second e =
      absurd (apart-spelled firsts rest distinct (tree a) (others b) (begins a) (also b) whole second e)
  choice-injective_as s t distinct one other (Other a) (This b) whole second e =
      absurd (apart-spelled firsts rest distinct (tree b) (others a) (begins b) (also a) second whole (sym e))

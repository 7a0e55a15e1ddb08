-- Plain types, of which two values that show the same are the same. A spelling determines a value of such a type alone.
use Rattle.std.proofs.Common.{◌≡◌, refl}
use Rattle.std.specs.Prelude.{⊤}
use Rattle.asn1_der.specs.Tree.{Tree, absent}
use Rattle.asn1_der.specs.Firsts.{Firsts}
use Rattle.asn1_der.specs.Seen.{Seen, as_is, by, Alike, seen_list, seen_part}
use Rattle.asn1_der.proofs.Spelling.{IsInjective, IsInjectiveAs}
use Rattle.asn1_der.proofs.Rows.{AllBeginAmong}

-- a value shows all that it is
abbrev pub IsPlain : {T : Type 0} → Seen T → Type 0
IsPlain as_is = ⊤
IsPlain (by V view) = ⊥

pub plain-list : {T : Type 0} (seen : Seen T) → IsPlain seen → IsPlain (seen_list seen)
plain-list as_is plain = tt
plain-list (by V view) plain = absurd plain

pub plain-part : {A B : Type 0} (part : B → A) (seen : Seen A) → IsPlain seen → IsPlain (seen_part part seen)
plain-part part as_is plain = tt
plain-part part (by V view) plain = absurd plain

-- the tree of each value of a plain type; of another type no value has one
abbrev pub plain_tree : {T : Type 0} → Seen T → (T → Tree) → T → Tree
plain_tree as_is tree = tree
plain_tree (by V view) tree = λ _. absent

pub plain-is : {T : Type 0} (seen : Seen T) (tree : T → Tree) → IsPlain seen → tree ≡ plain_tree seen tree
plain-is as_is tree plain = refl
plain-is (by V view) tree plain = absurd plain

pub plain-begins : {T : Type 0} (seen : Seen T) (firsts : Firsts) (tree : T → Tree) → AllBeginAmong firsts tree → AllBeginAmong firsts (plain_tree seen tree)
plain-begins as_is firsts tree begins = begins
plain-begins (by V view) firsts tree begins = λ v. tt

pub plain-injective : {T : Type 0} (seen : Seen T) (tree : T → Tree) → IsInjectiveAs (Alike seen) tree → IsInjective (plain_tree seen tree)
plain-injective as_is tree one = one
plain-injective (by V view) tree one = λ v w whole also e. absurd whole

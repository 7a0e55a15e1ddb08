-- A value that is written says which it is, and nothing is no spelling.
use Rattle.std.proofs.Common.{Option, None, Some}
use Rattle.asn1_der.specs.Tree.{Tree}
use Rattle.asn1_der.specs.Firsts.{Firsts, BeginsAmong}
use Rattle.asn1_der.specs.Seen.{Seen, Alike, seen_option}
use Rattle.asn1_der.proofs.Alike.{alike-some}
use Rattle.asn1_der.proofs.Spelling.{IsInjectiveAs}
use Rattle.asn1_codec.specs.Options.{option_tree}

pub option_tree-begins : {A : Type 0} (tree : A → Tree) (firsts : Firsts) → ((value : A) → BeginsAmong firsts (tree value))
    → (value : Option A) → BeginsAmong firsts (option_tree tree value)
option_tree-begins tree firsts begins None = tt
option_tree-begins tree firsts begins (Some value) = begins value

pub option_tree-injective_as : {A : Type 0} (seen : Seen A) (tree : A → Tree) → IsInjectiveAs (Alike seen) tree → IsInjectiveAs (Alike (seen_option seen)) (option_tree tree)
option_tree-injective_as seen tree one None w whole also e = absurd whole
option_tree-injective_as seen tree one (Some v) None whole also e = absurd also
option_tree-injective_as seen tree one (Some v) (Some w) whole also e = alike-some seen v w (one v w whole also e)

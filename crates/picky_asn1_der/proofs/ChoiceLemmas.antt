-- What is required of a choice, where its first alternative begins and where it doesn't.
use Rattle.std.proofs.Common.{◌≡◌, ℕ, ◌≤◌, true, false, List, [], ◌++◌, length, Some, sym, ap, subst, ◌∙◌, arith, append-nil}
use Rattle.asn1_der.specs.Tree.{Tree, der, Writes}
use Rattle.asn1_der.specs.Firsts.{Firsts, may_begin, apart}
use Rattle.asn1_der.proofs.Spelling.{der-begins}
use Rattle.asn1_der.proofs.Rows.{AllBeginAmong, apart-none}
use Rattle.picky_asn1_der.specs.declared.choice.Choice.{Choice}
use Rattle.picky_asn1_der.specs.declared.choice.Choice.TheVariants.{This, Other}
use Rattle.asn1_der.specs.declared.error.Asn1DerError.{Asn1DerError}
use Rattle.picky_asn1_der.specs.Choices.{choice_tree}
use Rattle.asn1_codec.specs.Reading.{Reading, TookNone, Refused, IsSpelling, Tells, HasOctets}
use Rattle.asn1_codec.proofs.Chain.{refused-known, refused-unread}
use Rattle.asn1_codec.proofs.FieldsLemmas.{nonempty, der_size}

-- what is spelled has octets
pub spelled_octets : {T : Type 0} (tree : T → Tree) (bytes : List ℕ) → IsSpelling tree bytes → HasOctets bytes
spelled_octets tree bytes p = subst (λ (b : List ℕ). 1 ≤ length b) (sym p.1.1) (der_size (tree p.0) p.1.0)

-- a spelling that is next begins with an octet of its type, of which it is told whether it is another's too
told : {T : Type 0} (tree : T → Tree) (own firsts : Firsts) → AllBeginAmong own tree → (answer : _) (old : Reading) → Tells firsts answer old → (value : T) (bytes rest : List ℕ)
    → Writes tree value bytes → old.left ≡ Some (bytes ++ rest) → length bytes ≤ old.limit
    → (octet : ℕ) × (may_begin own octet ≡ true) × (may_begin firsts octet ≡ answer)
told tree own firsts begins answer old tells value bytes rest writes left within =
    let some : 1 ≤ length bytes = spelled_octets tree bytes (value, writes) in
    let parts = nonempty bytes some in (
      parts.0,
      der-begins own (tree value) writes.0 (begins value) parts.0 parts.1 [] (append-nil (der (tree value)) ∙ sym writes.1 ∙ parts.2),
      tells.first parts.0 (parts.1 ++ rest) (left ∙ ap (λ l. Some (l ++ rest)) parts.2) (omega (arith, some, within)),
    )

module _ {A B : Type 0} (tree : A → Tree) (others : B → Tree) (firsts rest : Firsts) (distinct : apart firsts rest ≡ true)
    (begins : AllBeginAmong firsts tree) (also : AllBeginAmong rest others) where
  this_front : (old : Reading) → Tells firsts true old → (value : Choice A B) (bytes more : List ℕ) → Writes (choice_tree tree others) value bytes
      → old.left ≡ Some (bytes ++ more) → length bytes ≤ old.limit → (c d : List ℕ) × IsSpelling tree c × (bytes ≡ c ++ d)
  this_front old tells (This a) bytes more writes left within = (bytes, [], (a, writes), sym (append-nil bytes))
  this_front old tells (Other b) bytes more writes left within =
      let first = told others rest firsts also true old tells b bytes more writes left within in
      absurd (apart-none firsts rest first.0 distinct first.2 first.1)

  other_front : (old : Reading) → Tells firsts false old → (value : Choice A B) (bytes more : List ℕ) → Writes (choice_tree tree others) value bytes
      → old.left ≡ Some (bytes ++ more) → length bytes ≤ old.limit → (c d : List ℕ) × IsSpelling others c × (bytes ≡ c ++ d)
  other_front old tells (Other b) bytes more writes left within = (bytes, [], (b, writes), sym (append-nil bytes))
  other_front old tells (This a) bytes more writes left within =
      let first = told tree firsts firsts begins false old tells a bytes more writes left within in
      absurd (cc (first.1, first.2))

  -- the first alternative begins, and is refused
  pub this_refused : (old mid new : Reading) (e : Asn1DerError) → TookNone old mid → Tells firsts true old → Refused (IsSpelling tree) mid new e
      → Refused (IsSpelling (choice_tree tree others)) old new e
  this_refused old mid new e none tells refused =
      refused-known (IsSpelling (choice_tree tree others)) (IsSpelling tree) old new e (refused-unread (IsSpelling tree) old mid new e none refused)
      (λ bytes more p left within. this_front old tells p.0 bytes more p.1 left within)

  -- it doesn't begin, and the others are refused
  pub others_refused : (old mid new : Reading) (e : Asn1DerError) → TookNone old mid → Tells firsts false old → Refused (IsSpelling others) mid new e
      → Refused (IsSpelling (choice_tree tree others)) old new e
  others_refused old mid new e none tells refused =
      refused-known (IsSpelling (choice_tree tree others)) (IsSpelling others) old new e (refused-unread (IsSpelling others) old mid new e none refused)
      (λ bytes more p left within. other_front old tells p.0 bytes more p.1 left within)

-- A default value that is spelled out is none of the wanted fields.
use Rattle.std.proofs.Common.{◌≡◌, ℕ, ◌+◌, ◌≤◌, Bool, true, false, List, ◌++◌, length, Option, None, Some, refl, sym, ap, ◌∙◌, arith, append_assoc}
use Rattle.asn1_der.specs.Tree.{Tree, Trees, der, ders, put, IsWhole, AreWhole}
use Rattle.asn1_der.specs.Firsts.{Firsts, apart}
use Rattle.asn1_der.specs.Seen.{Seen, Alike}
use Rattle.asn1_der.proofs.Spelling.{IsInjectiveAs, der-front, der-begins}
use Rattle.asn1_der.proofs.Rows.{AllBeginAmong, StartAmong}
use Rattle.picky_asn1_der.specs.Defaults.{unless, told_value}
use Rattle.asn1_codec.proofs.FieldsLemmas.{nonempty, der_size, no_tail}

-- the trees of a field with a default and of those behind it
abbrev pub default_trees : {A B F : Type 0} → (A → Bool) → (A → Tree) → (B → Trees) → (F → A) → (F → B) → F → Trees
default_trees is_default tree trees head tail f = put tree (told_value is_default (head f)) (trees (tail f))

told_is : {A : Type 0} (b : Bool) (v h : A) → unless b v ≡ Some h → (b ≡ false) × (v ≡ h)
told_is true v h e = absurd (cc (e))
told_is false v h e = (refl, cc (e))

pub told-some : {A : Type 0} (is_default : A → Bool) (v : A) → is_default v ≡ false → told_value is_default v ≡ Some v
told-some is_default v e = ap (λ b. unless b v) e

pub told-none : {A : Type 0} (is_default : A → Bool) (v : A) → is_default v ≡ true → told_value is_default v ≡ None
told-none is_default v e = ap (λ b. unless b v) e

module _ {A B : Type 0} (tree : A → Tree) (trees : B → Trees) (firsts others : Firsts) (distinct : apart firsts others ≡ true)
    (begins : AllBeginAmong firsts tree) (starts : StartAmong others trees) (seen : Seen A) (injective : IsInjectiveAs (Alike seen) tree) where
  spelled_head : (o : Option A) (fields : B) (head : A) → IsWhole (tree head) → (bytes rest behind : List ℕ) → AreWhole (put tree o (trees fields))
      → bytes ≡ ders (put tree o (trees fields)) → 1 ≤ length bytes → bytes ++ rest ≡ der (tree head) ++ behind → (h : A) × (o ≡ Some h) × Alike seen h head
  spelled_head (Some h) fields head whole bytes rest behind all is some e =
      let tail = ders (trees fields) in
      let spelled : der (tree h) ++ (tail ++ rest) ≡ der (tree head) ++ behind =
      sym (append_assoc (der (tree h)) tail rest) ∙ ap (λ (l : List ℕ). l ++ rest) (sym is) ∙ e in
      (h, refl, injective h head all.0 whole (der-front (tree h) (tree head) (tail ++ rest) behind all.0 whole spelled).0)
  spelled_head None fields head whole bytes rest behind all is some e =
      let parts = nonempty bytes some in
      absurd (no_tail tree trees firsts others distinct begins starts fields all bytes is parts.0 parts.1 parts.2
      (der-begins firsts (tree head) whole (begins head) parts.0 (parts.1 ++ rest) behind (sym e ∙ ap (λ l. l ++ rest) parts.2)))

  pub never_default : (is_default : A → Bool) → ((v w : A) → Alike seen v w → is_default v ≡ is_default w) → (value : A) (fields : B) (head : A) (limit room : ℕ) → IsWhole (tree head)
      → limit ≡ length (der (tree head)) + room → (bytes rest behind : List ℕ) → AreWhole (put tree (told_value is_default value) (trees fields))
      → bytes ≡ ders (put tree (told_value is_default value) (trees fields)) → length bytes ≡ limit
      → bytes ++ rest ≡ der (tree head) ++ behind → is_default head ≡ false
  never_default is_default kept value fields head limit room whole is_room bytes rest behind all is size e =
      let some : 1 ≤ length bytes = omega (arith, size, is_room, der_size (tree head) whole) in
      let found = spelled_head (told_value is_default value) fields head whole bytes rest behind all is some e in
      let told = told_is (is_default value) value found.0 found.1 in
      sym (kept found.0 head found.2) ∙ sym (ap is_default told.1) ∙ told.0

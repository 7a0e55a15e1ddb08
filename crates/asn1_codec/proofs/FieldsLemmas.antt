-- What is expected after the fields that were read.
use Rattle.std.proofs.Common.{◌≡◌, ℕ, ◌+◌, ◌<◌, ◌≤◌, Bool, true, false, List, [], ◌∷◌, ◌++◌, length, Option, None, Some, refl, sym, ap, subst, ◌∙◌, arith, length-append, append_assoc, append-nil}
use Rattle.std.specs.Prelude.{IsTrue}
use Rattle.asn1_der.specs.Tree.{Tree, Trees, more, der, ders, put, trees_of, IsWhole, AreWhole}
use Rattle.asn1_der.specs.Firsts.{Firsts, may_begin, apart}
use Rattle.asn1_der.proofs.Spelling.{der-front, der-begins, der-nonempty}
use Rattle.asn1_der.proofs.Rows.{AllBeginAmong, StartAmong, apart-none}
use Rattle.asn1_der.specs.declared.error.Asn1DerError.{Asn1DerError}
use Rattle.asn1_codec.specs.Optionals.{ReadIf}
use Rattle.asn1_codec.specs.Reading.{Reading, Took, TookNone, TookFields, Refused, AreFields, IsSpelling, Tells}
use Rattle.asn1_codec.proofs.Chain.{Cuts, refused-after, refused-unread, refused-known, took-join, took-unread}

-- the trees of a field and of those behind it
abbrev pub field_trees : {A B : Type 0} → (A → Tree) → (B → Trees) → A × B → Trees
field_trees tree trees f = more (tree f.0) (trees f.1)

abbrev pub optional_trees : {A B : Type 0} → (A → Tree) → (B → Trees) → Option A × B → Trees
optional_trees tree trees f = put tree f.0 (trees f.1)

pub nonempty : (bytes : List ℕ) → 1 ≤ length bytes → (octet : ℕ) × (rest : List ℕ) × (bytes ≡ octet ∷ rest)
nonempty [] some = absurd (omega arith)
nonempty (b ∷ bytes) some = (b, bytes, refl)

pub der_size : (t : Tree) → IsWhole t → 1 ≤ length (der t)
der_size t whole = some (der t) (der-nonempty t whole)
  where
    some : (bytes : List ℕ) → (bytes ≡ [] → ⊥) → 1 ≤ length bytes
    some [] none = absurd (none refl)
    some (b ∷ bytes) none = omega arith

pub required_cut : {A B : Type 0} (tree : A → Tree) (trees : B → Trees) (head : A) (limit room : ℕ) → IsWhole (tree head)
    → limit ≡ length (der (tree head)) + room → Cuts (AreFields (field_trees tree trees) limit) (AreFields trees room) (der (tree head)) limit
required_cut tree trees head limit room whole is_room bytes rest behind p e within =
    let fields = p.0 in
    let tail = ders (trees fields.1) in
    let spelled : der (tree fields.0) ++ (tail ++ rest) ≡ der (tree head) ++ behind =
    sym (append_assoc (der (tree fields.0)) tail rest) ∙ ap (λ l. l ++ rest) (sym p.2) ∙ e in
    let one = der-front (tree fields.0) (tree head) (tail ++ rest) behind p.1.0 whole spelled in
    let size : length bytes ≡ length (der (tree head)) + length tail = ap length p.2 ∙ length-append (der (tree fields.0)) tail ∙ ap (λ l. length l + length tail) one.0 in
    (tail, rest, (fields.1, p.1.1, refl, omega (arith, size, p.3, is_room)), sym one.1, omega (arith, size))

module _ {A B : Type 0} (tree : A → Tree) (trees : B → Trees) (firsts others : Firsts) (distinct : apart firsts others ≡ true)
    (begins : AllBeginAmong firsts tree) (starts : StartAmong others trees) where
  -- without the optional field nothing begins as it does
  pub no_tail : (fields : B) → AreWhole (trees fields) → (bytes : List ℕ) → bytes ≡ ders (trees fields) → (octet : ℕ) (rest : List ℕ) → bytes ≡ octet ∷ rest
      → IsTrue (may_begin firsts octet) → ⊥
  no_tail fields whole bytes is octet rest e first =
      apart-none firsts others octet distinct first (starts fields whole octet rest (sym is ∙ e))

  some_cut : (o : Option A) (fields : B) (head : A) (limit room : ℕ) → IsWhole (tree head) → limit ≡ length (der (tree head)) + room
      → (bytes rest behind : List ℕ) → AreWhole (put tree o (trees fields)) → bytes ≡ ders (put tree o (trees fields)) → length bytes ≡ limit
      → bytes ++ rest ≡ der (tree head) ++ behind
      → (c d : List ℕ) × AreFields trees room c × (behind ≡ c ++ d) × (length (der (tree head)) + length c ≤ length bytes)
  some_cut (Some h) fields head limit room whole is_room bytes rest behind all is size e =
      required_cut tree trees head limit room whole is_room bytes rest behind ((h, fields), all, is, size) e (omega (arith, size))
  some_cut None fields head limit room whole is_room bytes rest behind all is size e =
      let parts = nonempty bytes (omega (arith, size, is_room, der_size (tree head) whole)) in
      absurd (no_tail fields all bytes is parts.0 parts.1 parts.2
      (der-begins firsts (tree head) whole (begins head) parts.0 (parts.1 ++ rest) behind (sym e ∙ ap (λ l. l ++ rest) parts.2)))

  pub optional_some_cut : (head : A) (limit room : ℕ) → IsWhole (tree head) → limit ≡ length (der (tree head)) + room
      → Cuts (AreFields (optional_trees tree trees) limit) (AreFields trees room) (der (tree head)) limit
  optional_some_cut head limit room whole is_room bytes rest behind p e within =
      some_cut p.0.0 p.0.1 head limit room whole is_room bytes rest behind p.1 p.2 p.3 e

  head_front : (old : Reading) (o : Option A) (fields : B) → Tells firsts true old → (bytes rest : List ℕ) → AreWhole (put tree o (trees fields))
      → bytes ≡ ders (put tree o (trees fields)) → length bytes ≡ old.limit → old.left ≡ Some (bytes ++ rest)
      → (c d : List ℕ) × IsSpelling tree c × (bytes ≡ c ++ d)
  head_front old (Some h) fields tells bytes rest all is size left = (der (tree h), ders (trees fields), (h, (all.0, refl)), is)
  head_front old None fields tells bytes rest all is size left =
      let parts = nonempty bytes (omega (arith, size, tells.some refl)) in
      absurd (no_tail fields all bytes is parts.0 parts.1 parts.2
      (tells.first parts.0 (parts.1 ++ rest) (left ∙ ap (λ l. Some (l ++ rest)) parts.2) (tells.some refl)))

  -- the optional field begins, and is refused
  pub optional_head_refused : (old mid new : Reading) (e : Asn1DerError) → TookNone old mid → Tells firsts true old → Refused (IsSpelling tree) mid new e
      → Refused (AreFields (optional_trees tree trees) old.limit) old new e
  optional_head_refused old mid new e none tells refused =
      refused-known (AreFields (optional_trees tree trees) old.limit) (IsSpelling tree) old new e (refused-unread (IsSpelling tree) old mid new e none refused)
      (λ bytes rest p left within. head_front old p.0.0 p.0.1 tells bytes rest p.1 p.2 p.3 left)

  tail_front : (old : Reading) (o : Option A) (fields : B) → Tells firsts false old → (bytes rest : List ℕ) → AreWhole (put tree o (trees fields))
      → bytes ≡ ders (put tree o (trees fields)) → length bytes ≡ old.limit → old.left ≡ Some (bytes ++ rest)
      → (c d : List ℕ) × AreFields trees old.limit c × (bytes ≡ c ++ d)
  tail_front old None fields tells bytes rest all is size left = (bytes, [], (fields, all, is, size), sym (append-nil bytes))
  tail_front old (Some h) fields tells bytes rest all is size left =
      let some : 1 ≤ length bytes = omega (arith, der_size (tree h) all.0, ap length is, length-append (der (tree h)) (ders (trees fields))) in
      let parts = nonempty bytes some in
      let begun = der-begins firsts (tree h) all.0 (begins h) parts.0 parts.1 (ders (trees fields)) (sym is ∙ parts.2) in
      let told = tells.first parts.0 (parts.1 ++ rest) (left ∙ ap (λ l. Some (l ++ rest)) parts.2) (omega (arith, some, size)) in
      absurd (cc (begun, told))

  -- the optional field doesn't begin, and those behind it are refused
  pub optional_tail_refused : (old mid new : Reading) (e : Asn1DerError) → TookNone old mid → Tells firsts false old → Refused (AreFields trees mid.limit) mid new e
      → Refused (AreFields (optional_trees tree trees) old.limit) old new e
  optional_tail_refused old mid new e none tells refused =
      let here : Refused (AreFields trees old.limit) mid new e = subst (λ k. Refused (AreFields trees k) mid new e) none.limit refused in
      refused-known (AreFields (optional_trees tree trees) old.limit) (AreFields trees old.limit) old new e
      (refused-unread (AreFields trees old.limit) old mid new e none here)
      (λ bytes rest p left within. tail_front old p.0.0 p.0.1 tells bytes rest p.1 p.2 p.3 left)

  -- the optional field was read where it begins, and those behind it are refused
  pub optional_behind_refused : (head : Option A) (answer : Bool) (old begun mid new : Reading) (e : Asn1DerError) → TookNone old begun → Tells firsts answer old
      → ReadIf tree answer head begun mid → Refused (AreFields trees mid.limit) mid new e
      → Refused (AreFields (optional_trees tree trees) old.limit) old new e
  optional_behind_refused None answer old begun mid new e none tells read refused =
      optional_tail_refused old mid new e (subst (λ r. TookNone old r) (sym read.1) none) (subst (λ b. Tells firsts b old) read.0 tells) refused
  optional_behind_refused (Some head) answer old begun mid new e none tells read refused =
      let took = took-unread (der (tree head)) old begun mid none read.1.1 in
      refused-after (AreFields (optional_trees tree trees) old.limit) (AreFields trees mid.limit) (der (tree head)) old mid new e took refused
      (optional_some_cut head old.limit mid.limit read.1.0 took.limit)

-- the optional field was read where it begins, and then those behind it
pub optional_took : {A B : Type 0} (tree : A → Tree) (trees : B → Trees) (head : Option A) (fields : B) (answer : Bool) (old begun mid new : Reading)
    → TookNone old begun → ReadIf tree answer head begun mid → TookFields trees fields mid new → TookFields (optional_trees tree trees) (head, fields) old new
optional_took tree trees None fields answer old begun mid new none read rest =
    let here : Took (ders (trees fields)) begun new = subst (λ r. Took (ders (trees fields)) r new) read.1 rest.1 in
    (rest.0, took-unread (ders (trees fields)) old begun new none here, rest.2)
optional_took tree trees (Some head) fields answer old begun mid new none read rest =
    let took = took-unread (der (tree head)) old begun mid none read.1.1 in
    ((read.1.0, rest.0), took-join (der (tree head)) (ders (trees fields)) old mid new took rest.1, rest.2)

-- the elements that were read are a front of the wanted ones, of which there are more
pub elements_cut : {A : Type 0} (tree : A → Tree) (items values : List A) (rest behind : List ℕ) → AreWhole (trees_of tree items) → AreWhole (trees_of tree values)
    → ders (trees_of tree values) ++ rest ≡ ders (trees_of tree items) ++ behind → length (ders (trees_of tree items)) < length (ders (trees_of tree values))
    → (value : A) × (d : List ℕ) × IsWhole (tree value) × (behind ≡ der (tree value) ++ d)
    × (length (ders (trees_of tree items)) + length (der (tree value)) ≤ length (ders (trees_of tree values)))
elements_cut tree [] [] rest behind p q e size = absurd (omega arith)
elements_cut tree [] (v ∷ vs) rest behind p q e size = (
  v,
  ders (trees_of tree vs) ++ rest,
  q.0,
  sym e ∙ append_assoc (der (tree v)) (ders (trees_of tree vs)) rest,
  omega (arith, length-append (der (tree v)) (ders (trees_of tree vs))),
)
elements_cut tree (i ∷ is) [] rest behind p q e size = absurd (omega arith)
elements_cut tree (i ∷ is) (v ∷ vs) rest behind p q e size =
    let below = ders (trees_of tree vs) in
    let front = ders (trees_of tree is) in
    let spelled : der (tree v) ++ (below ++ rest) ≡ der (tree i) ++ (front ++ behind) =
    sym (append_assoc (der (tree v)) below rest) ∙ e ∙ append_assoc (der (tree i)) front behind in
    let one = der-front (tree v) (tree i) (below ++ rest) (front ++ behind) q.0 p.0 spelled in
    let heads : length (der (tree v)) ≡ length (der (tree i)) = ap length one.0 in
    let left = length-append (der (tree v)) below in
    let right = length-append (der (tree i)) front in
    let deeper : length front < length below = omega (arith, heads, left, right, size) in
    let found = elements_cut tree is vs rest behind p.1 q.1 one.1 deeper in
    (found.0, found.1, found.2, found.3, omega (arith, heads, left, right, found.4))

-- one element more
pub trees_more : {A : Type 0} (tree : A → Tree) (items : List A) (item : A) → ders (trees_of tree (items ++ item ∷ [])) ≡ ders (trees_of tree items) ++ der (tree item)
trees_more tree [] item = append-nil (der (tree item))
trees_more tree (i ∷ is) item = ap (λ l. der (tree i) ++ l) (trees_more tree is item) ∙ sym (append_assoc (der (tree i)) (ders (trees_of tree is)) (der (tree item)))

pub whole_more : {A : Type 0} (tree : A → Tree) (items : List A) (item : A) → AreWhole (trees_of tree items) → IsWhole (tree item)
    → AreWhole (trees_of tree (items ++ item ∷ []))
whole_more tree [] item all whole = (whole, tt)
whole_more tree (i ∷ is) item all whole = (all.0, whole_more tree is item all.1 whole)

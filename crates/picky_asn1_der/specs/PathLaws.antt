-- Where elements are in others: what a path leads to, put together from its steps.
use Rattle.std.proofs.Common.{◌≡◌, ℕ, suc, true, List, [], ◌∷◌, ◌++◌, refl, sym, ap, ◌∙◌, subst, append-nil, append_assoc}
use Rattle.asn1_der.specs.Length.{element}
use Rattle.picky_asn1_der.specs.Raw.{Raw, has_low_number}
use Rattle.picky_asn1_der.specs.Splits.{SplitsInto}
use Rattle.picky_asn1_der.specs.Parts.{AreElements, IsPart, IsPartIn}

-- the bytes are one element, whose tag is in one octet
abbrev pub IsElement : List ℕ → Type 0
IsElement bytes = (first : ℕ) × (content : List ℕ) × (has_low_number first ≡ true) × (bytes ≡ element first content)

-- the bytes are some elements
abbrev pub AreSome : List ℕ → Type 0
AreSome bytes = (raws : List Raw) × AreElements raws bytes

-- the path leads from the outer bytes to the inner ones, and on from there
abbrev pub LeadsTo : List ℕ → List ℕ → List ℕ → Type 0
LeadsTo outer path inner = (further part : List ℕ) → IsPart inner further part → IsPart outer (path ++ further) part

-- the number n leads from the outer bytes, which are elements, to the inner ones, and on from there
abbrev pub LeadsIn : List ℕ → ℕ → List ℕ → Type 0
LeadsIn outer n inner = (further part : List ℕ) → IsPart inner further part → IsPartIn outer n further part

raw_of : (b : List ℕ) → IsElement b → Raw
raw_of b e = record { first = e.0; content = e.1 }

split_of : (b rest all : List ℕ) (e : IsElement b) → all ≡ b ++ rest → SplitsInto all (raw_of b e) rest
unfolding raw_of
split_of b rest all e is = (e.2, is ∙ ap (λ (l : List ℕ). l ++ rest) e.3)

-- what one element holds
pub in_element : (first : ℕ) (content bytes : List ℕ) → has_low_number first ≡ true → bytes ≡ element first content
    → (n : ℕ) (inner : List ℕ) → LeadsIn content n inner → LeadsTo bytes (n ∷ []) inner
in_element first content bytes low is n inner leads further part p =
    let found = leads further part p in
    (record { first = first; content = content }, found.0, (low, is ∙ sym (append-nil (element first content))), found.1, found.2)

-- an element in front of others
module _ (front rest bytes : List ℕ) (e : IsElement front) (is : bytes ≡ front ++ rest) where
  pub some_more : AreSome rest → AreSome bytes
  some_more (raws, all) = (raw_of front e ∷ raws, (rest, split_of front rest bytes e is, all))

  pub at_front : AreSome rest → LeadsIn bytes 0 front
  unfolding raw_of
  at_front (raws, all) further part p =
      (front, (raw_of front e ∷ raws, raw_of front e, (rest, split_of front rest bytes e is, all), refl, e.3), p)

  pub behind_front : (n : ℕ) (inner : List ℕ) → LeadsIn rest n inner → LeadsIn bytes (suc n) inner
  behind_front n inner leads further part p =
      let found = leads further part p in
      let at = found.1 in
      (found.0, (raw_of front e ∷ at.0, at.1, (rest, split_of front rest bytes e is, at.2), at.3, at.4), found.2)

-- an element alone
pub at_alone : (bytes : List ℕ) → IsElement bytes → LeadsIn bytes 0 bytes
at_alone bytes e = at_front bytes [] bytes e (sym (append-nil bytes)) ([], refl)

-- one path behind another
pub go_on : (a b c p q : List ℕ) → LeadsTo a p b → LeadsTo b q c → LeadsTo a (p ++ q) c
go_on a b c p q first then further part is =
    subst (λ (l : List ℕ). IsPart a l part) (sym (append_assoc p q further)) (first (q ++ further) part (then further part is))

-- the part to which a path leads
pub part_there : (a c p : List ℕ) → LeadsTo a p c → IsPart a p c
part_there a c p leads = subst (λ (l : List ℕ). IsPart a l c) (append-nil p) (leads [] c refl)

-- the one element that is a content
pub held_at : (first : ℕ) (content b : List ℕ) → has_low_number first ≡ true → IsElement content → b ≡ element first content → LeadsTo b (0 ∷ []) content
held_at first content b low e is = in_element first content b low is 0 content (at_alone content e)

-- the same, if nothing follows it
pub alone_at : (first : ℕ) (content b : List ℕ) → has_low_number first ≡ true → IsElement content → b ≡ element first (content ++ []) → LeadsTo b (0 ∷ []) content
alone_at first content b low e is = in_element first (content ++ []) b low is 0 content (at_front content [] (content ++ []) e refl ([], refl))

-- the second of two elements
pub second_at : (first : ℕ) (front second b : List ℕ) → has_low_number first ≡ true → IsElement front → IsElement second → b ≡ element first (front ++ (second ++ []))
    → LeadsTo b (1 ∷ []) second
second_at first front second b low e f is =
    in_element first (front ++ (second ++ [])) b low is 1 second
    (behind_front front (second ++ []) (front ++ (second ++ [])) e refl 0 second (at_front second [] (second ++ []) f refl ([], refl)))

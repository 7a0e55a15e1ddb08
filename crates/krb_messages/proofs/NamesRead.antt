-- A loop over the octets of a name's text.
use Rattle.std.proofs.Common.{◌≡◌, ℕ, ◌+◌, ◌<◌, ◌≤◌, ◌==◌, Bool, true, false, List, [], ◌∷◌, ◌++◌, drop, take, get_or, length, eq-eqb, Bor, Vec, Option, Some, None, Result, Ok, Err, IfErr, IsErrAnd, inl, inr, refl, subst, ap, sym, ◌∙◌}
use Rattle.std.proofs.lemmas.List.{append_assoc, append-nil, at_drop_more, drop_all, nil_from_length, take_all, take_more}
use Rattle.std.proofs.lemmas.Bool.{eqb-true, false≢true, ne_eqb}
use Rattle.std.specs.Global.{Global}
use Rattle.std.specs.Option.{option_map}
use Rattle.krb_messages.specs.declared.name_reading.NameTextFault.{NameTextFault}
use Rattle.krb_messages.specs.declared.name_reading.NameTextFault.TheVariants.{SlashInRealm, UnexpectedRealm}
use Rattle.krb_messages.specs.NameReading.{IsFault, Octets, all_parts, before, components_in, empty_first, in_first, in_realm, octets, parts_from, principal_in, realm_in, sole_part, split_from, split_realm, unquoted, with_realm}

-- what the rest gives, behind the parts that are complete and the octets of the part that isn't
abbrev pub behind : List Octets → Octets → Result (Octets × List Octets) NameTextFault → Result (List Octets) NameTextFault
behind done part (Ok (first, further)) = Ok (done ++ (part ++ first) ∷ further)
behind done part (Err fault) = Err fault

pub behind-none : (r : Result (Octets × List Octets) NameTextFault) → all_parts r ≡ behind [] [] r
behind-none (Ok (first, further)) = refl
behind-none (Err fault) = refl

pub behind-in_first : (done : List Octets) (part : Octets) (octet : ℕ) (r : Result (Octets × List Octets) NameTextFault)
    → behind done part (in_first octet r) ≡ behind done (part ++ octet ∷ []) r
behind-in_first done part octet (Ok (first, further)) = ap (λ (text : Octets). Ok (done ++ text ∷ further)) (sym (append_assoc part (octet ∷ []) first))
behind-in_first done part octet (Err fault) = refl

pub behind-empty_first : (done : List Octets) (part : Octets) (r : Result (Octets × List Octets) NameTextFault)
    → behind done part (empty_first r) ≡ behind (done ++ part ∷ []) [] r
behind-empty_first done part (Ok (first, further)) =
    ap (λ (text : Octets). Ok (done ++ text ∷ first ∷ further)) (append-nil part) ∙ ap Ok (sym (append_assoc done (part ∷ []) (first ∷ further)))
behind-empty_first done part (Err fault) = refl

pub behind-end : (done : List Octets) (part : Octets) → behind done part (parts_from false []) ≡ Ok (done ++ part ∷ [])
behind-end done part = ap (λ (text : Octets). Ok (done ++ text ∷ [])) (append-nil part)

pub octets-more : (parts : List (Vec ℕ Global)) (part : Vec ℕ Global) → octets (parts ++ part ∷ []) ≡ octets parts ++ part.items ∷ []
octets-more [] part = refl
octets-more (first ∷ parts) part = ap (λ rest. first.items ∷ rest) (octets-more parts part)

-- a realm has no parts before its last
pub many-parts : (before : List (Vec ℕ Global)) (last : Octets) → (before ≡ [] → ⊥) → sole_part (Ok (octets before ++ last ∷ [])) ≡ Err SlashInRealm
many-parts [] last some = absurd (some refl)
many-parts (first ∷ []) last some = refl
many-parts (first ∷ second ∷ more) last some = refl

-- after i octets: the parts that are complete, the part that isn't, and whether the last octet quotes the next one
abbrev pub IsSoFar : Octets → ℕ → List Octets → Octets → Bool → Type 0
IsSoFar text i done part quoted = components_in text ≡ behind done part (parts_from quoted (drop i text))

module _ (text : Octets) (i d : ℕ) (done : List Octets) (part : Octets) (inside : i < length text) where
  pub after-quoted : IsSoFar text i done part true → IsSoFar text (i + 1) done (part ++ unquoted (get_or text i d) ∷ []) false
  after-quoted so_far =
      so_far ∙ at_drop_more (λ rest. behind done part (parts_from true rest)) text i d inside
      ∙ behind-in_first done part (unquoted (get_or text i d)) (parts_from false (drop (i + 1) text))

  -- what one octet does that isn't quoted
  one_more : IsSoFar text i done part false → components_in text ≡ behind done part (parts_from false (get_or text i d ∷ drop (i + 1) text))
  one_more so_far = so_far ∙ at_drop_more (λ rest. behind done part (parts_from false rest)) text i d inside

  pub after-backslash : (get_or text i d == 92) ≡ true → IsSoFar text i done part false → IsSoFar text (i + 1) done part true
  after-backslash is_92 so_far = rw is_92 at (one_more so_far)

  pub after-slash : (get_or text i d == 92) ≡ false → (get_or text i d == 47) ≡ true → IsSoFar text i done part false
      → IsSoFar text (i + 1) (done ++ part ∷ []) [] false
  after-slash not_92 is_47 so_far = rw (not_92, is_47) at (one_more so_far) ∙ behind-empty_first done part (parts_from false (drop (i + 1) text))

  pub after-at : (get_or text i d == 92) ≡ false → (get_or text i d == 47) ≡ false → (get_or text i d == 64) ≡ true → IsSoFar text i done part false
      → components_in text ≡ Err UnexpectedRealm
  after-at not_92 not_47 is_64 so_far = rw (not_92, not_47, is_64) at (one_more so_far)

  pub after-other : (get_or text i d == 92) ≡ false → (get_or text i d == 47) ≡ false → (get_or text i d == 64) ≡ false → IsSoFar text i done part false
      → IsSoFar text (i + 1) done (part ++ get_or text i d ∷ []) false
  after-other not_92 not_47 not_64 so_far =
      rw (not_92, not_47, not_64) at (one_more so_far) ∙ behind-in_first done part (get_or text i d) (parts_from false (drop (i + 1) text))

-- the name and the realm that the rest gives, behind the first i octets
abbrev pub split_behind : Octets → ℕ → Octets × Option Octets → Octets × Option Octets
split_behind text i rest = (take i text ++ rest.0, rest.1)

abbrev pub IsSplit : Octets → ℕ → Bool → Type 0
IsSplit text i quoted = split_realm text ≡ split_behind text i (split_from quoted (drop i text))

pub split-none : (text : Octets) → IsSplit text 0 false
unfolding split_realm
split-none text = refl

module _ (text : Octets) (i d : ℕ) (inside : i < length text) where
  one_split : (quoted : Bool) → IsSplit text i quoted → split_realm text ≡ split_behind text i (split_from quoted (get_or text i d ∷ drop (i + 1) text))
  one_split quoted so_far = so_far ∙ at_drop_more (λ rest. split_behind text i (split_from quoted rest)) text i d inside

  one_kept : (rest : Octets × Option Octets) → split_behind text i (before (get_or text i d) rest) ≡ split_behind text (i + 1) rest
  one_kept rest =
      ap (λ (name : Octets). (name, rest.1))
      (sym (append_assoc (take i text) (get_or text i d ∷ []) rest.0) ∙ ap (λ (front : Octets). front ++ rest.0) (sym (take_more text i d inside)))

  pub split-quoted : IsSplit text i true → IsSplit text (i + 1) false
  split-quoted so_far = one_split true so_far ∙ one_kept (split_from false (drop (i + 1) text))

  pub split-at : get_or text i d ≡ 64 → IsSplit text i false → split_realm text ≡ (take i text, Some (drop (i + 1) text))
  split-at is_64 so_far =
      rw (eq-eqb (get_or text i d) 64 is_64) at (one_split false so_far) ∙ ap (λ (name : Octets). (name, Some (drop (i + 1) text))) (append-nil (take i text))

  pub split-more : (get_or text i d ≡ 64 → ⊥) → IsSplit text i false → IsSplit text (i + 1) (get_or text i d == 92)
  split-more not_64 so_far =
      rw (ne_eqb (get_or text i d) 64 not_64) at (one_split false so_far) ∙ one_kept (split_from (get_or text i d == 92) (drop (i + 1) text))

pub split-end : (text : Octets) (i : ℕ) (quoted : Bool) → length text ≤ i → IsSplit text i quoted → split_realm text ≡ (text, None)
split-end text i quoted end so_far =
    let none : drop i text ≡ [] = drop_all i text end in
    let all : take i text ≡ text = take_all i text end in
    (rw (none, all) at so_far) ∙ ap (λ (name : Octets). (name, None)) (append-nil text)

-- a fault of the parts is one of the realm that they are, and of the name with it
pub fault-realm : (text : Octets) (fault : NameTextFault) → IsFault (components_in text) fault → IsFault (realm_in text) fault
unfolding realm_in
fault-realm text fault (inl memory) = inl memory
fault-realm text fault (inr refused) = inr (ap sole_part refused)

pub realm-ok : (text realm : Octets) → components_in text ≡ Ok (realm ∷ []) → realm_in text ≡ Ok realm
unfolding realm_in
realm-ok text realm read = ap sole_part read

pub realm-many : (text : Octets) (before : List (Vec ℕ Global)) (last : Octets) → (before ≡ [] → ⊥) → components_in text ≡ Ok (octets before ++ last ∷ [])
    → realm_in text ≡ Err SlashInRealm
unfolding realm_in
realm-many text before last some read = ap sole_part read ∙ many-parts before last some

-- what is returned of a text's split
abbrev pub split_parts : Octets → Option (Bor Octets) → Octets × Option Octets
split_parts name realm = (name, option_map (λ text. text.now) realm)

module _ (text name : Octets) (realm : Option (Bor Octets)) (split : split_parts name realm ≡ split_realm text) where
  in_parts : principal_in text ≡ in_realm (components_in name) (split_parts name realm).1
  unfolding principal_in
  in_parts = ap (λ parts. in_realm (components_in parts.0) parts.1) (sym split)

  pub fault-name : (fault : NameTextFault) → IsFault (components_in name) fault → IsFault (principal_in text) fault
  fault-name fault (inl memory) = inl memory
  fault-name fault (inr refused) = inr (in_parts ∙ ap (λ components. in_realm components (split_parts name realm).1) refused)

  module _ (components : List Octets) (read : components_in name ≡ Ok components) where
    pub principal-alone : realm ≡ None → principal_in text ≡ Ok (components, None)
    principal-alone none =
        in_parts ∙ ap (λ components. in_realm components (split_parts name realm).1) read ∙ ap (λ realm. in_realm (Ok components) (split_parts name realm).1) none

    with_some : (some : Bor Octets) → realm ≡ Some some → principal_in text ≡ with_realm components (realm_in some.now)
    with_some some is =
        in_parts ∙ ap (λ components. in_realm components (split_parts name realm).1) read ∙ ap (λ realm. in_realm (Ok components) (split_parts name realm).1) is

    pub principal-with : (some : Bor Octets) (octets : Octets) → realm ≡ Some some → realm_in some.now ≡ Ok octets → principal_in text ≡ Ok (components, Some octets)
    principal-with some octets is read_realm = with_some some is ∙ ap (with_realm components) read_realm

    pub principal-fault : (some : Bor Octets) (fault : NameTextFault) → realm ≡ Some some → IsFault (realm_in some.now) fault → IsFault (principal_in text) fault
    principal-fault some fault is (inl memory) = inl memory
    principal-fault some fault is (inr refused) = inr (with_some some is ∙ ap (with_realm components) refused)

-- what the exit of a `?` returns
pub at_exit : {T : Type 0} (r : Result T NameTextFault) (fault : NameTextFault) (Q : NameTextFault → Type 0) → IsErrAnd r (λ y. y ≡ fault) → Q fault → IfErr r Q
at_exit (Ok value) fault Q is q = absurd is
at_exit (Err y) fault Q is q = subst Q (sym is) q

pub is_none : {A : Type 0} (xs : List A) → (length xs == 0) ≡ true → xs ≡ []
is_none xs is = nil_from_length xs (eqb-true (length xs) 0 is)

pub is_some : {A : Type 0} (xs : List A) → (length xs == 0) ≡ false → xs ≡ [] → ⊥
is_some xs isnt none = false≢true (sym isnt ∙ ap (λ ys. length ys == 0) none)

abbrev pub as_read : List Octets → Option Octets → Result (List Octets × Option Octets) NameTextFault
as_read components realm = Ok (components, realm)

pub with_octets : (components : List Octets) (realm other : Option Octets) → realm ≡ other → as_read components realm ≡ as_read components other
with_octets components realm other same = ap (as_read components) same

-- Whether a keytab has an entry of a service.
use Rattle.std.proofs.Common.{◌≡◌, ℕ, suc, Bool, true, false, cond, ◌&&◌, ◌||◌, nat_le, List, [], ◌∷◌, length, Option, None, Some, refl, sym, ap, ◌∙◌, arith}
use Rattle.std.specs.Prelude.{is_some, Vec}
use Rattle.std.proofs.lemmas.Bool.{and_right, le-leb}
use Rattle.std.proofs.lemmas.List.{length-map}
use Rattle.std.specs.Bool.{nat_eq}
use Rattle.std.specs.Global.{Global}
use Rattle.std.specs.Cmp.Lexicographic.{pointwise}
use Rattle.std.specs.List.{cons_option, list_any}
use Rattle.std.specs.Option.{option_map}
use Rattle.krb_crypto.specs.Keys.{KeyRecord}
use Rattle.krb_file_formats.specs.Entries.{Entry}
use Rattle.krb_messages.specs.Names.{is_same_name}
use Rattle.krb_realm_accounts.specs.Names.{parts}
use Rattle.krb_ap_requests.specs.Entry.{EntryRecord}
use Rattle.krb_service.specs.KeytabEntries.{entries_of, entry_of, entry_with, has_entry, is_counted, key_of}

some_if : (counted : Bool) (key : Option KeyRecord) (made : KeyRecord → EntryRecord) → is_some (cond counted (option_map made key) None) ≡ (counted && is_some key)
some_if true None made = refl
some_if true (Some key) made = refl
some_if false key made = refl

-- a key record is an entry if it counts, and has a key
pub entry_is : (realm : List ℕ) (components : List (List ℕ)) (e : Entry) → is_some (entry_of realm components e) ≡ (is_counted realm components e && is_some (key_of e))
unfolding entry_of
entry_is realm components e = some_if (is_counted realm components e) (key_of e) (entry_with realm components e.kvno)

behind : (entry : Option EntryRecord) (others : List EntryRecord) (some : Bool) → some ≡ nat_le 1 (length others) → (is_some entry || some) ≡ nat_le 1 (length (cons_option entry others))
behind None others some is = is
behind (Some entry) others some is = sym (le-leb 1 (length (entry ∷ others)) (omega arith))

-- a keytab has an entry if some record is one
pub some_entry : (realm : List ℕ) (components : List (List ℕ)) (keytab : List Entry) → list_any (λ e. is_some (entry_of realm components e)) keytab ≡ has_entry realm components keytab
some_entry realm components [] = refl
some_entry realm components (e ∷ es) =
    behind (entry_of realm components e) (entries_of realm components es) (list_any (λ r. is_some (entry_of realm components r)) es) (some_entry realm components es)

-- names of other lengths
unequal : (xs ys : List (List ℕ)) → (length xs ≡ length ys → ⊥) → is_same_name xs ys ≡ false
unequal [] [] other = absurd (other refl)
unequal [] (y ∷ ys) other = refl
unequal (x ∷ xs) [] other = refl
unequal (x ∷ xs) (y ∷ ys) other = and_right (pointwise nat_eq x y) (is_same_name xs ys) (unequal xs ys (λ same. other (ap suc same)))

pub other_length : (components : List (List ℕ)) (name : List (Vec ℕ Global)) → (length components ≡ length name → ⊥) → false ≡ is_same_name components (parts name)
other_length components name other = sym (unequal components (parts name) (λ same. other (same ∙ length-map name (λ v. v.items))))

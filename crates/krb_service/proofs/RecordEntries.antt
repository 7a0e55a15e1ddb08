-- The entry that a key record is.
use Rattle.std.proofs.Common.{◌≡◌, ℕ, Bool, true, false, cond, List, Option, None, Some, refl, sym, ap}
use Rattle.std.specs.Option.{option_map}
use Rattle.krb_crypto.specs.Keys.{KeyRecord}
use Rattle.krb_file_formats.specs.Entries.{Entry}
use Rattle.krb_ap_requests.specs.Entry.{EntryRecord}
use Rattle.krb_service.specs.KeytabEntries.{entry_of, entry_with, is_counted, key_of}

passed_over : (counted : Bool) (entry : Option EntryRecord) → counted ≡ false → None ≡ cond counted entry None
passed_over counted entry is = rw is refl

none_either : (counted : Bool) (entry : Option EntryRecord) → entry ≡ None → None ≡ cond counted entry None
none_either true entry is = sym is
none_either false entry is = refl

taken : (counted : Bool) (entry : Option EntryRecord) (x : EntryRecord) → counted ≡ true → Some x ≡ entry → Some x ≡ cond counted entry None
taken counted entry x is same = rw is same

-- a record that doesn't count
pub not_counted : (realm : List ℕ) (components : List (List ℕ)) (e : Entry) → is_counted realm components e ≡ false → None ≡ entry_of realm components e
unfolding entry_of
not_counted realm components e is = passed_over (is_counted realm components e) (option_map (entry_with realm components e.kvno) (key_of e)) is

-- one whose key is of no suite
pub without_key : (realm : List ℕ) (components : List (List ℕ)) (e : Entry) → None ≡ key_of e → None ≡ entry_of realm components e
unfolding entry_of
without_key realm components e none =
    none_either (is_counted realm components e) (option_map (entry_with realm components e.kvno) (key_of e)) (ap (option_map (entry_with realm components e.kvno)) (sym none))

-- another
pub with_key : (realm : List ℕ) (components : List (List ℕ)) (e : Entry) (key : KeyRecord) → is_counted realm components e ≡ true → Some key ≡ key_of e
    → Some (entry_with realm components e.kvno key) ≡ entry_of realm components e
unfolding entry_of
with_key realm components e key is has =
    taken (is_counted realm components e) (option_map (entry_with realm components e.kvno) (key_of e)) (entry_with realm components e.kvno key) is
    (ap (option_map (entry_with realm components e.kvno)) has)

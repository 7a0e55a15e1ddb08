-- The entries of a keytab are those of the service.
use Rattle.std.proofs.Common.{◌≡◌, ◌≤◌, ℕ, Bool, true, false, cond, ◌&&◌, nat_le, List, [], ◌∷◌, length, Option, None, Some, Ok, refl, sym, subst, arith}
use Rattle.std.proofs.lemmas.Bool.{and_parts, eqb-true, le-leb, leb-true}
use Rattle.std.proofs.lemmas.List.Elements.{All-cons, All-nil}
use Rattle.std.specs.List.{All, cons_option, find}
use Rattle.std.specs.Option.{option_map}
use Rattle.krb_crypto.specs.Suites.{cipher_key_size, cipher_suites}
use Rattle.krb_crypto.specs.declared.suite.CipherSuite.{CipherSuite}
use Rattle.krb_crypto.proofs.AllSuites.{found_passes}
use Rattle.krb_realm_accounts.specs.Names.{AreComponents, IsRealmName}
use Rattle.krb_file_formats.specs.Entries.{Entry}
use Rattle.krb_ap_requests.specs.Entry.{EntryRecord}
use Rattle.krb_service.specs.KeytabEntries.{entries_of, entry_of, entry_with, is_record_of, is_suite_of, key_of}
use Rattle.krb_service.specs.KeytabService.{AreOwnEntries, IsOwnEntry, giving}

-- a service's entry, if it is one
abbrev IsOwn : List ℕ → List (List ℕ) → Option EntryRecord → Type 0
IsOwn realm components None = Unit {0}
IsOwn realm components (Some entry) = IsOwnEntry realm components entry

sized : (e : Entry) (suite : CipherSuite) → find (is_suite_of e) cipher_suites ≡ Some suite → length e.key ≡ cipher_key_size suite
sized e suite is =
    let passes = found_passes (is_suite_of e) cipher_suites suite is in eqb-true (length e.key) (cipher_key_size suite) ((and_parts _ _ passes).1)

by_suite : (realm : List ℕ) (components : List (List ℕ)) (e : Entry) → IsRealmName realm → AreComponents components → 1 ≤ e.kvno
    → (suite : Option CipherSuite) → find (is_suite_of e) cipher_suites ≡ suite
    → IsOwn realm components (option_map (entry_with realm components e.kvno) (option_map (λ s. record { suite = s; bytes = e.key }) suite))
by_suite realm components e named parts kvno None is = tt
by_suite realm components e named parts kvno (Some suite) is = ((named, parts, sized e suite is, kvno), refl, refl)

by_test : (realm : List ℕ) (components : List (List ℕ)) (e : Entry) → IsRealmName realm → AreComponents components
    → (b : Bool) → (is_record_of realm components e && nat_le 1 e.kvno) ≡ b
    → IsOwn realm components (cond b (option_map (entry_with realm components e.kvno) (key_of e)) None)
by_test realm components e named parts true is =
    by_suite realm components e named parts (leb-true 1 e.kvno ((and_parts _ _ is).1)) (find (is_suite_of e) cipher_suites) refl
by_test realm components e named parts false is = tt

own : (realm : List ℕ) (components : List (List ℕ)) (e : Entry) → IsRealmName realm → AreComponents components → IsOwn realm components (entry_of realm components e)
unfolding entry_of
own realm components e named parts = by_test realm components e named parts (is_record_of realm components e && nat_le 1 e.kvno) refl

behind : (realm : List ℕ) (components : List (List ℕ)) (entry : Option EntryRecord) (others : List EntryRecord) → IsOwn realm components entry
    → All (IsOwnEntry realm components) others → All (IsOwnEntry realm components) (cons_option entry others)
behind realm components None others is all = all
behind realm components (Some entry) others is all = All-cons (IsOwnEntry realm components) entry others is all

-- so is each of them
pub all_own : (realm : List ℕ) (components : List (List ℕ)) (keytab : List Entry) → IsRealmName realm → AreComponents components
    → All (IsOwnEntry realm components) (entries_of realm components keytab)
all_own realm components [] named parts = All-nil (IsOwnEntry realm components)
all_own realm components (e ∷ es) named parts =
    behind realm components (entry_of realm components e) (entries_of realm components es) (own realm components e named parts) (all_own realm components es named parts)

-- a keytab gives entries where there is one
pub few_given : (entries : List EntryRecord) → giving entries ≡ Ok tt → 1 ≤ length entries
few_given [] given = absurd (cc (given))
few_given (e ∷ es) given = omega arith

pub some_given : (entries : List EntryRecord) → 1 ≤ length entries → giving entries ≡ Ok tt
some_given entries few = rw (le-leb 1 (length entries) few) refl

-- so the entries are those of a service
pub are_own : (realm : List ℕ) (components : List (List ℕ)) (keytab : List Entry) (entries : List EntryRecord) → IsRealmName realm → AreComponents components
    → entries ≡ entries_of realm components keytab → giving (entries_of realm components keytab) ≡ Ok tt → AreOwnEntries realm components entries
are_own realm components keytab entries named parts is given =
    subst (λ (es : List EntryRecord). AreOwnEntries realm components es) (sym is)
    ((named, parts, few_given (entries_of realm components keytab) given, all_own realm components keytab named parts))

-- A realm's accounts: a finite map from the components of a name to an account.
use Rattle.std.specs.Prelude.{◌≡◌, ◌+◌, ◌==◌, false, not, List, [], ◌∷◌, length, Option, None, Some, Result, Ok, Err, if◌then◌else◌, codes, refl}
use Rattle.std.specs.Ordering.{nat_cmp, eq_by_cmp}
use Rattle.std.specs.declared.cmp.Ordering.{Ordering}
use Rattle.std.specs.Cmp.{IsTotalOrder, nat_cmp_total}
use Rattle.std.specs.Cmp.Lexicographic.{slice_cmp, lists_total}
use Rattle.std.specs.FinMap.{FinMap, get, contains_key, IsAntisymmetric, nat_cmp-IsAntisymmetric, slice_cmp-IsAntisymmetric}
use Rattle.picky_asn1.specs.Bytes.{Bytes}
use Rattle.krb_crypto.specs.declared.suite.CipherSuite.{CipherSuite}
use Rattle.krb_crypto.specs.Suites.{cipher_key_size}
use Rattle.krb_realm_accounts.specs.Account.{AccountRecord, kept, rekeyed_attributes}
use Rattle.krb_realm_accounts.specs.declared.refusal.RealmRefusal.{RealmRefusal}
use Rattle.krb_realm_accounts.specs.declared.refusal.RealmRefusal.TheVariants.{Exists, Unknown, BadKeyLength, NumberSpent}

-- the order of names: by the first component that differs, and there by the first character that differs
abbrev pub name_cmp : List Bytes → List Bytes → Ordering
name_cmp = slice_cmp (slice_cmp nat_cmp)

abbrev pub AccountMap : Type 0
AccountMap = FinMap name_cmp AccountRecord

-- what a realm answers of each name: its account, if it has one
abbrev pub Look : Type 0
Look = List Bytes → Option AccountRecord

-- The account that each name has among these.
abbrev pub look_in : AccountMap → Look
look_in accounts = get accounts

-- a name that has an account gets no other
abbrev pub inserting : AccountMap → List Bytes → Result (Unit {0}) RealmRefusal
inserting accounts name = if contains_key accounts name then Err Exists else Ok tt

-- a name that has no account loses none
abbrev pub removing : AccountMap → List Bytes → Result (Unit {0}) RealmRefusal
removing accounts name = if contains_key accounts name then Ok tt else Err Unknown

-- the account with its next key, which has the next kvno and no salt, and none of the keys before
abbrev pub next_key : CipherSuite → Bytes → AccountRecord → AccountRecord
next_key suite key account = record { suite = suite; key = key; kvno = account.kvno + 1; salt = None; former = []; attributes = rekeyed_attributes account.attributes }

-- the same, or the refusal where there is no next kvno; a kvno is below 2^32
abbrev pub with_key : CipherSuite → Bytes → AccountRecord → Result AccountRecord RealmRefusal
with_key suite key account = if account.kvno == 4294967295 then Err NumberSpent else Ok (next_key suite key account)

-- the account with its next key and this salt, which keeps the keys before
abbrev pub keeping : CipherSuite → Bytes → Option Bytes → AccountRecord → Result AccountRecord RealmRefusal
keeping suite key salt account =
    if account.kvno == 4294967295 then Err NumberSpent else Ok (record (next_key suite key account) { salt = salt; former = kept account })

-- the account without the keys before
abbrev pub purged : AccountRecord → AccountRecord
purged account = record account { former = [] }

-- what a name's account becomes by a key, in the order of refusals
abbrev pub rekeyed : CipherSuite → Bytes → Option AccountRecord → Result AccountRecord RealmRefusal
rekeyed suite key None = Err Unknown
rekeyed suite key (Some account) = with_key suite key account

-- The account with its next key, or the refusal: first of the key's length, then of an unknown name, then of the greatest kvno.
abbrev pub changing : AccountMap → List Bytes → CipherSuite → Bytes → Result AccountRecord RealmRefusal
changing accounts name suite key =
    if not (length key == cipher_key_size suite) then Err BadKeyLength else rekeyed suite key (get accounts name)

-- names are in one order, in which only equal names tie
pub name_total : IsTotalOrder name_cmp
name_total = lists_total (lists_total nat_cmp_total)

pub name_apart : IsAntisymmetric name_cmp
name_apart = slice_cmp-IsAntisymmetric (slice_cmp-IsAntisymmetric nat_cmp-IsAntisymmetric)

-- the components a and b are neither the component ab nor the component a/b, and case matters
apart : eq_by_cmp name_cmp (codes "a" ∷ codes "b" ∷ []) (codes "ab" ∷ []) ≡ false
apart = refl

apart_slash : eq_by_cmp name_cmp (codes "a" ∷ codes "b" ∷ []) (codes "a/b" ∷ []) ≡ false
apart_slash = refl

apart_case : eq_by_cmp name_cmp (codes "host" ∷ []) (codes "Host" ∷ []) ≡ false
apart_case = refl

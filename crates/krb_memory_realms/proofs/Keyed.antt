-- A realm's accounts keep keys of their suites, and have no attributes.
use Rattle.std.proofs.Common.{◌≡◌, Bool, true, false, not, ◌==◌, cond, List, length, Option, None, Some, Result, Ok, Err, OnOk, OnErr, refl, subst, sym, ap, ◌∙◌, if◌then◌else◌}
use Rattle.std.proofs.lemmas.Bool.{eqb-true}
use Rattle.std.specs.FinMap.{empty, get, get-empty, get-insert, get-remove, insert, remove}
use Rattle.std.specs.Ordering.{eq_by_cmp}
use Rattle.picky_asn1.specs.Bytes.{Bytes}
use Rattle.block_ciphers.specs.Bytes.{IsBytes}
use Rattle.krb_crypto.specs.declared.suite.CipherSuite.{CipherSuite}
use Rattle.krb_crypto.specs.Suites.{cipher_key_size}
use Rattle.krb_realm_accounts.specs.Account.{AccountRecord, rekeyed_attributes}
use Rattle.krb_realm_accounts.specs.Accounts.{AccountMap, changing, look_in, name_cmp, name_total, rekeyed, next_key}
use Rattle.krb_realm_accounts.specs.declared.refusal.RealmRefusal.TheVariants.{BadKeyLength, NumberSpent}
use Rattle.krb_kdc_exchanges.specs.Before.{IsFree}
use Rattle.krb_messages.specs.TicketGranting.{krbtgt_of}
use Rattle.krb_memory_realms.specs.Realm.{AreOwn, IsOwn, IsRealm, is_krbtgt}
use Rattle.krb_memory_realms.proofs.Granting.{inserted, inserted_own, removed}

own_insert : (accounts : AccountMap) (name : List Bytes) (account : AccountRecord) → AreOwn (look_in accounts) → IsOwn account → AreOwn (look_in (insert accounts name account))
own_insert accounts name account are is these found e =
    by (eq_by_cmp name_cmp these name) (sym (get-insert name_total accounts name account these) ∙ e)
  where
    by : (same : Bool) → cond same (Some account) (get accounts these) ≡ Some found → IsOwn found
    by true f = let own : account ≡ found = cc (f) in subst IsOwn own is
    by false f = are these found f

own_remove : (accounts : AccountMap) (name : List Bytes) → AreOwn (look_in accounts) → AreOwn (look_in (remove accounts name))
own_remove accounts name are these found e =
    by (eq_by_cmp name_cmp these name) (sym (get-remove name_total accounts name these) ∙ e)
  where
    by : (same : Bool) → cond same None (get accounts these) ≡ Some found → IsOwn found
    by true f = absurd (cc (f))
    by false f = are these found f

own_empty : AreOwn (look_in empty)
own_empty these found e = absurd (none (get-empty name_cmp these) e)
  where
    none : get {X = AccountRecord} (empty {R = name_cmp}) these ≡ None → get {X = AccountRecord} (empty {R = name_cmp}) these ≡ Some found → ⊥
    none f g = cc (f, g)

-- a new realm, with the account of its ticket-granting service alone
pub made_realm : (realm : Bytes) (accounts after : AccountMap) (name : List Bytes) (account : AccountRecord) → accounts ≡ empty → name ≡ krbtgt_of realm → IsOwn account
    → after ≡ insert accounts name account → IsRealm realm after
made_realm realm accounts after name account none own is e =
    subst (IsRealm realm) (sym e)
    (subst (λ n. IsRealm realm (insert accounts n account)) (sym own)
    (record {
      granting = inserted_own realm accounts account;
      own = own_insert accounts (krbtgt_of realm) account (subst (λ m. AreOwn (look_in m)) (sym none) own_empty) is;
    }))

-- a realm where a name is given an account
pub inserted_realm : (realm : Bytes) (accounts after : AccountMap) (name : List Bytes) (account : AccountRecord) → IsRealm realm accounts → IsOwn account
    → after ≡ insert accounts name account → IsRealm realm after
inserted_realm realm accounts after name account has is e =
    subst (IsRealm realm) (sym e) (record { granting = inserted realm accounts name account has.granting; own = own_insert accounts name account has.own is })

-- and where another's than the ticket-granting service's is taken away
pub removed_realm : (realm : Bytes) (accounts after : AccountMap) (name : List Bytes) → IsRealm realm accounts → is_krbtgt realm name ≡ false → after ≡ remove accounts name → IsRealm realm after
removed_realm realm accounts after name has other e =
    subst (IsRealm realm) (sym e) (record { granting = removed realm accounts name has.granting other; own = own_remove accounts name has.own })

-- a call that is refused changes nothing
pub kept_realm : {T E : Type 0} (result : Result T E) (Made : Type 0) (realm : Bytes) (old new : AccountMap) → IsRealm realm old → (Made → IsRealm realm new)
    → OnOk result Made → OnErr result (new ≡ old) → IsRealm realm new
kept_realm (Ok value) Made realm old new has made ok err = made ok
kept_realm (Err refusal) Made realm old new has made ok err = subst (IsRealm realm) (sym err) has

abbrev next_account : CipherSuite → Bytes → AccountRecord → AccountRecord
next_account suite key old = next_key suite key old

-- an account that is given its next key has a key of its suite, and still no attribute
pub changed_own : (accounts : AccountMap) (name : List Bytes) (suite : CipherSuite) (key : Bytes) (account : AccountRecord) → AreOwn (look_in accounts) → IsBytes key
    → changing accounts name suite key ≡ Ok account → IsOwn account
changed_own accounts name suite key account are bytes e = by_length (length key == cipher_key_size suite) refl e
  where
    by_number : (old : AccountRecord) (spent : Bool) → IsFree old → (length key == cipher_key_size suite) ≡ true
        → (if spent then Err NumberSpent else Ok (next_account suite key old)) ≡ Ok account → IsOwn account
    by_number old true free sized f = absurd (cc (f))
    by_number old false free sized f =
        let own : next_account suite key old ≡ account = cc (f) in
        subst IsOwn own (record { keyed = record { sized = eqb-true (length key) (cipher_key_size suite) sized; bytes = bytes }; free = ap rekeyed_attributes free })

    by_found : (found : Option AccountRecord) → get accounts name ≡ found → (length key == cipher_key_size suite) ≡ true → rekeyed suite key found ≡ Ok account → IsOwn account
    by_found None has sized f = absurd (cc (f))
    by_found (Some old) has sized f = by_number old (old.kvno == 4294967295) (are name old has).free sized f

    by_length : (fits : Bool) → (length key == cipher_key_size suite) ≡ fits → (if not fits then Err BadKeyLength else rekeyed suite key (get accounts name)) ≡ Ok account → IsOwn account
    by_length false short f = absurd (cc (f))
    by_length true sized f = by_found (get accounts name) refl sized f

-- A loop that adds the accounts of a list.
use Rattle.std.proofs.Common.{◌≡◌, ℕ, ◌+◌, ◌<◌, suc, List, length, drop, get_or, map, Ok, Err, refl, ◌∙◌, arith}
use Rattle.std.proofs.lemmas.List.{drop_more}
use Rattle.krb_memory_realms.specs.Realm.{RealmState}
use Rattle.krb_settings.specs.Written.{shown_account}
use Rattle.krb_settings.specs.declared.settings.AccountSettings.{AccountSettings}
use Rattle.krb_settings_kdc.specs.Realms.{adding_account, in_account, with_account, with_accounts}
use Rattle.krb_settings_kdc.specs.declared.fault.RealmFault.{RealmFault}

-- the first i accounts made of `start` this realm
abbrev pub IsSoFar : RealmState → List AccountSettings → ℕ → RealmState → Type 0
IsSoFar start accounts i realm = with_accounts 1 start (map shown_account accounts) ≡ with_accounts (1 + i) realm (map shown_account (drop i accounts))

pub so_far-more : (start realm new : RealmState) (accounts : List AccountSettings) (i : ℕ) (d : AccountSettings) → i < length accounts
    → adding_account realm (shown_account (get_or accounts i d)) ≡ Ok tt → new ≡ with_account realm (shown_account (get_or accounts i d))
    → IsSoFar start accounts i realm → IsSoFar start accounts (i + 1) new
so_far-more start realm new accounts i d inside added is so_far =
    let next : suc (1 + i) ≡ 1 + (i + 1) = omega arith in
    so_far ∙ rw (drop_more accounts i d inside, added, is, ← next) refl

pub so_far-refused : (start realm : RealmState) (accounts : List AccountSettings) (i : ℕ) (d : AccountSettings) (fault : RealmFault) → i < length accounts
    → in_account (1 + i) (adding_account realm (shown_account (get_or accounts i d))) ≡ Err fault
    → IsSoFar start accounts i realm → with_accounts 1 start (map shown_account accounts) ≡ Err fault
so_far-refused start realm accounts i d fault inside refused so_far = so_far ∙ rw (drop_more accounts i d inside, refused) refl

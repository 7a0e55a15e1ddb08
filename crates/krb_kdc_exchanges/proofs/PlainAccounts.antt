-- Accounts without attributes are allowed everything, as long as the realm's settings say.
use Rattle.std.proofs.Common.{◌≡◌, ℕ, Bool, false, not, ◌&&◌, Ok, refl, sym, subst}
use Rattle.krb_realm_accounts.specs.Account.{AccountRecord}
use Rattle.krb_realm_accounts.specs.declared.attributes.Attributes.{Attributes}
use Rattle.krb_realm_accounts.specs.declared.attributes.TheConstants.{NO_ATTRIBUTES}
use Rattle.decision_tables.specs.Tables.{done, refuse}
use Rattle.krb_messages.specs.Names.{components}
use Rattle.krb_kdc_exchanges.specs.Allowed.{changes_passwords, first_allowed, further_allowed, has_ended, lifetime_of, limited}
use Rattle.krb_kdc_exchanges.specs.Before.{IsFree}
use Rattle.krb_kdc_exchanges.specs.Grants.{Principals}

never_ends : (moment : ℕ) (account : AccountRecord) → IsFree account → has_ended moment account ≡ false
never_ends moment account is = subst (λ (a : Attributes). has_ended moment (record account { attributes = a }) ≡ false) (sym is) refl

first_rows : (a b c d e f : Bool) → a ≡ false → b ≡ false → c ≡ false → d ≡ false → e ≡ false → f ≡ false
    → (refuse {T = Unit {0}} {E = ℕ} a 1 (refuse b 2 (refuse c 23 (refuse d 18 (refuse e 7 (refuse f 12 (done (Ok tt)))))))).gives (Ok tt)
first_rows a b c d e f p q r s t u = rw (p, q, r, s, t, u) refl

further_rows : (a b c d e : Bool) → a ≡ false → b ≡ false → c ≡ false → d ≡ false → e ≡ false
    → (refuse {T = Unit {0}} {E = ℕ} a 1 (refuse b 18 (refuse c 7 (refuse d 12 (refuse e 2 (done (Ok tt))))))).gives (Ok tt)
further_rows a b c d e p q r s t = rw (p, q, r, s, t) refl

-- an attribute that nobody sets
unset : (get : Attributes → Bool) (account : AccountRecord) → IsFree account → get NO_ATTRIBUTES ≡ false → get account.attributes ≡ false
unset get account is none = subst (λ a. get a ≡ false) (sym is) none

pub first_plain : (moment : ℕ) (these : Principals) → IsFree these.client → IsFree these.service → (first_allowed moment these).gives (Ok tt)
first_plain moment these client service =
    let changes : Bool = changes_passwords (components these.service_name) in
    first_rows (has_ended moment these.client) (has_ended moment these.service) (these.client.attributes.must_change && not changes) these.client.attributes.is_off
    these.service.attributes.is_off these.service.attributes.is_no_service
    (never_ends moment these.client client) (never_ends moment these.service service)
    (unset (λ a. a.must_change && not changes) these.client client refl) (unset (λ a. a.is_off) these.client client refl)
    (unset (λ a. a.is_off) these.service service refl) (unset (λ a. a.is_no_service) these.service service refl)

pub further_plain : (moment : ℕ) (client service : AccountRecord) → IsFree client → IsFree service → (further_allowed moment client service).gives (Ok tt)
further_plain moment client service is other =
    further_rows (has_ended moment client) client.attributes.is_off service.attributes.is_off service.attributes.is_no_service (has_ended moment service)
    (never_ends moment client is) (unset (λ a. a.is_off) client is refl)
    (unset (λ a. a.is_off) service other refl) (unset (λ a. a.is_no_service) service other refl) (never_ends moment service other)

pub limited_plain : (lifetime : ℕ) (account : AccountRecord) → IsFree account → limited account lifetime ≡ lifetime
limited_plain lifetime account is = subst (λ (a : Attributes). limited (record account { attributes = a }) lifetime ≡ lifetime) (sym is) refl

pub lifetime_plain : (lifetime : ℕ) (client service : AccountRecord) → IsFree client → IsFree service → lifetime_of lifetime client service ≡ lifetime
lifetime_plain lifetime client service is other =
    subst (λ n. limited service n ≡ lifetime) (sym (limited_plain lifetime client is)) (limited_plain lifetime service other)

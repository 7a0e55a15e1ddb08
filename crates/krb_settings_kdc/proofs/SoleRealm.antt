-- A settings file has one realm, or a fault.
use Rattle.std.proofs.Common.{◌≡◌, ◌≢◌, List, ℕ, Result, Ok, Err, inl, inr, ap, sym, ◌∙◌}
use Rattle.krb_memory_realms.specs.Realm.{RealmState}
use Rattle.krb_settings.proofs.Files as file
use Rattle.krb_settings_kdc.specs.Files.{IsRealmFile, HasFault}
use Rattle.krb_settings_kdc.specs.Realms.{realm_of_settings}
use Rattle.krb_settings_kdc.specs.declared.fault.RealmFault.{RealmFault}
use Rattle.krb_settings_kdc.specs.declared.fault.RealmFault.TheVariants.{Memory}

pub one_realm : (text : List ℕ) (realm other : RealmState) → IsRealmFile text realm → IsRealmFile text other → realm ≡ other
one_realm text realm other (a, p, e) (b, q, f) =
    let same : a ≡ b = file.one_realm text a b p q in
    let both : ◌≡◌ {A = Result RealmState RealmFault} (Ok realm) (Ok other) = sym e ∙ ap realm_of_settings same ∙ f in
    cc

pub no_realm_with_fault : (text : List ℕ) (fault : RealmFault) (realm : RealmState) → HasFault text fault → fault ≢ Memory → ¬ IsRealmFile text realm
no_realm_with_fault text fault realm (inl memory) other written = other memory
no_realm_with_fault text fault realm (inr (inl (e, is, known, has))) other (b, q, given) = file.no_realm_with_fault text e b has known q
no_realm_with_fault text fault realm (inr (inr (a, p, refused))) other (b, q, given) =
    let same : a ≡ b = file.one_realm text a b p q in
    let clash : ◌≡◌ {A = Result RealmState RealmFault} (Err fault) (Ok realm) = sym refused ∙ ap realm_of_settings same ∙ given in
    cc

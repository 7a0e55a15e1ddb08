-- What is read of a settings file that has a document.
use Rattle.std.proofs.Common.{◌≡◌, ◌≢◌, List, ℕ, Result, Ok, Err, inl, inr, ap, sym, ◌∙◌, arith}
use Rattle.std.proofs.lemmas.Option.{same_Some}
use Rattle.std.specs.Prelude.{MatchResult}
use Rattle.toml.specs.Data.{Members}
use Rattle.krb_settings.specs.Steps.{IsAside}
use Rattle.krb_settings.specs.Realms.{realm_in_table}
use Rattle.krb_settings.specs.Files.{IsDocument, IsRealmText, IsUnread, HasFault}
use Rattle.krb_settings.specs.Written.{WrittenRealm, shown_realm}
use Rattle.krb_settings.specs.declared.settings.RealmSettings.{RealmSettings}
use Rattle.krb_settings.specs.declared.fault.SettingsFault.{SettingsFault}
use Rattle.krb_settings.specs.declared.fault.SettingsFault.TheVariants.{TooLong, NotToml, File, Account, Memory}

pub read_document : (text : List ℕ) (document : Members) (r : Result RealmSettings SettingsFault) → IsDocument text document
    → IsAside Memory shown_realm (realm_in_table document) r → MatchResult r (λ realm. IsRealmText text (shown_realm realm)) (HasFault text)
read_document text document (Ok realm) whole given = (document, whole, given)
read_document text document (Err fault) whole (inl memory) = inl memory
read_document text document (Err fault) whole (inr refused) = inr (inr (document, whole, refused))

one_document : (text : List ℕ) (a b : Members) → IsDocument text a → IsDocument text b → a ≡ b
one_document text a b p q = same_Some a b (sym p.parsed ∙ q.parsed)

pub one_realm : (text : List ℕ) (realm other : WrittenRealm) → IsRealmText text realm → IsRealmText text other → realm ≡ other
one_realm text realm other (a, p, e) (b, q, f) =
    let same : a ≡ b = one_document text a b p q in
    let both : ◌≡◌ {A = Result WrittenRealm SettingsFault} (Ok realm) (Ok other) = sym e ∙ ap realm_in_table same ∙ f in
    cc

no_fault : (text : List ℕ) (fault : SettingsFault) (document : Members) → IsDocument text document → IsUnread text fault → ⊥
no_fault text TooLong document read long = omega (arith, read.short, long)
no_fault text (NotToml _) document read (short, none) = none document read
no_fault text (File _) document read none = none
no_fault text (Account _ _) document read none = none
no_fault text Memory document read none = none

pub no_realm_with_fault : (text : List ℕ) (fault : SettingsFault) (realm : WrittenRealm) → HasFault text fault → fault ≢ Memory → ¬ IsRealmText text realm
no_realm_with_fault text fault realm (inl memory) other written = other memory
no_realm_with_fault text fault realm (inr (inl unread)) other (document, read, e) = no_fault text fault document read unread
no_realm_with_fault text fault realm (inr (inr (a, p, refused))) other (b, q, given) =
    let same : a ≡ b = one_document text a b p q in
    let clash : ◌≡◌ {A = Result WrittenRealm SettingsFault} (Err fault) (Ok realm) = sym refused ∙ ap realm_in_table same ∙ given in
    cc

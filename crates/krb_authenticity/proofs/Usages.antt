-- The key usage of a reply's part is that of its exchange.
use Rattle.std.proofs.Common.{◌≡◌, ◌⊎◌, ℕ, Bool, true, false, Option, None, Some, Result, Ok, refl, sym, ap, subst, ◌∙◌, inl, inr}
use Rattle.std.proofs.lemmas.Bool.{false≢true}
use Rattle.std.specs.Option.{option_map}
use Rattle.std.specs.Prelude.{◌==◌, ◌||◌}
use Rattle.picky_asn1.specs.Bytes.{Bytes}
use Rattle.decision_tables.specs.Tables.{Table, done}
use Rattle.krb_crypto.specs.declared.suite.CipherSuite.{CipherSuite}
use Rattle.krb_messages.specs.Names.{components}
use Rattle.krb_messages.specs.Padata.{first_of, padata_in}
use Rattle.krb_messages.specs.declared.data_types.encryption_key.EncryptionKey.{EncryptionKey}
use Rattle.krb_realm_accounts.specs.Account.{AccountRecord}
use Rattle.krb_tickets.specs.Grant.{GrantRecord}
use Rattle.krb_tickets.specs.Keys.{suite_of}
use Rattle.krb_tickets.specs.ReplyKeys.{ReplyKeyRecord, as_reply_key, tgs_reply_key, tgs_subkey_reply_key}
use Rattle.krb_tickets.specs.declared.reply.Exchange.TheVariants.{As, Tgs}
use Rattle.krb_ap_requests.proofs.Shown.{both, ok_same}
use Rattle.krb_kdc_exchanges.specs.AgreedKeys.{agreed_reply}
use Rattle.krb_kdc_exchanges.specs.AsTable.{authenticated_by, timestamped}
use Rattle.krb_kdc_exchanges.specs.Call.{pkinit_call}
use Rattle.krb_kdc_exchanges.specs.PkinitCalls.{AgreedRecord}
use Rattle.krb_kdc_exchanges.specs.Requests.{body_of}
use Rattle.krb_kdc_exchanges.specs.Rows.{PkinitRows}
use Rattle.krb_kdc_exchanges.specs.TgsTable.{reply_key, subkey_in, under_subkey}
use Rattle.krb_authenticity.specs.Grants.{IsFirst, IsFurther, IsGranted}
use Rattle.krb_authenticity.specs.Parties.{ExchangeRecord}

-- the reply key of an AS exchange is for usage 3
pub record IsOfFirst (under : ReplyKeyRecord) : Type 0 where
  pub exchange : under.exchange ≡ As
  pub usage : under.usage ≡ 3

-- that of a TGS exchange for usage 8, and under a subkey for usage 9
pub record IsOfFurther (under : ReplyKeyRecord) : Type 0 where
  pub exchange : under.exchange ≡ Tgs
  pub usage : (under.usage ≡ 8) ⊎ (under.usage ≡ 9)

module _ (rows : PkinitRows) (exchange : ExchangeRecord) (grant : GrantRecord) (under : ReplyKeyRecord) (service : AccountRecord) where
  module _ (is : IsFirst rows exchange grant under service) where
    abbrev client : AccountRecord
    client = is.principals.client

    abbrev own_key : Unit {0} → Table (Result ReplyKeyRecord ℕ)
    own_key _ = done (Ok (as_reply_key client))

    abbrev agreed_on : AgreedRecord → Table (Result ReplyKeyRecord ℕ)
    agreed_on agreed = done (Ok (agreed_reply exchange.call client is.asked agreed))

    by_padata : (padata : Option Bytes) → (authenticated_by exchange.call rows client (components is.principals.client_name) is.asked padata).gives (Ok under) → IsOfFirst under
    by_padata None x =
        let own = both {A = Unit {0}} {T = ReplyKeyRecord} (timestamped exchange.call client (padata_in is.asked)) own_key under x in
        let same : under ≡ as_reply_key client = ok_same under (as_reply_key client) own.2 in
        record { exchange = ap (λ (u : ReplyKeyRecord). u.exchange) same; usage = ap (λ (u : ReplyKeyRecord). u.usage) same }
    by_padata (Some padata) x =
        let own = both {A = AgreedRecord} {T = ReplyKeyRecord} (rows.judges (pkinit_call exchange.call (components is.principals.client_name) (body_of is.asked)) padata) agreed_on under x in
        let agreed : ReplyKeyRecord = agreed_reply exchange.call client is.asked own.0 in
        let same : under ≡ agreed = ok_same under agreed own.2 in
        record { exchange = ap (λ (u : ReplyKeyRecord). u.exchange) same; usage = ap (λ (u : ReplyKeyRecord). u.usage) same }

    pub of_first : IsOfFirst under
    of_first = by_padata (first_of 16 (padata_in is.asked)) is.authenticates

  same_some : (a : ReplyKeyRecord) → ◌≡◌ {A = Option ReplyKeyRecord} (Some a) (Some under) → under ≡ a
  same_some a e = cc (e)

  of_subkey : (key : Bytes) (suite : Option CipherSuite) → (subkey : EncryptionKey) → suite_of subkey ≡ suite → under_subkey subkey ≡ Some under → IsOfFurther under
  of_subkey key None subkey found e =
      let none : ◌≡◌ {A = Option ReplyKeyRecord} None (Some under) = subst (λ (s : Option CipherSuite). option_map (λ suite. tgs_subkey_reply_key suite subkey.key_value.0) s ≡ Some under) found e in absurd (cc (none))
  of_subkey key (Some suite) subkey found e =
      let own : ReplyKeyRecord = tgs_subkey_reply_key suite subkey.key_value.0 in
      let some : ◌≡◌ {A = Option ReplyKeyRecord} (Some own) (Some under) = subst (λ (s : Option CipherSuite). option_map (λ suite. tgs_subkey_reply_key suite subkey.key_value.0) s ≡ Some under) found e in
      let same = same_some own some in
      record { exchange = ap (λ (u : ReplyKeyRecord). u.exchange) same; usage = inr (ap (λ (u : ReplyKeyRecord). u.usage) same) }

  by_subkey : (suite : CipherSuite) (key : Bytes) (subkey : Option EncryptionKey) → reply_key suite key subkey ≡ Some under → IsOfFurther under
  by_subkey suite key None e =
      let same = same_some (tgs_reply_key suite key) e in
      record { exchange = ap (λ (u : ReplyKeyRecord). u.exchange) same; usage = inl (ap (λ (u : ReplyKeyRecord). u.usage) same) }
  by_subkey suite key (Some subkey) e = of_subkey key (suite_of subkey) subkey refl e

  pub of_further : IsFurther exchange grant under service → IsOfFurther under
  of_further is = by_subkey is.shown.suite is.part.key.0.key_value.0 (subkey_in is.shown.authenticator) is.replies

-- a reply's part is for one of these
abbrev pub is_for_reply : ℕ → Bool
is_for_reply usage = (usage == 3) || (usage == 8) || (usage == 9)

further_usage : (under : ReplyKeyRecord) → IsOfFurther under → is_for_reply under.usage ≡ true
further_usage under is = elim is.usage [
  | inl own ↦ subst (λ u. is_for_reply u ≡ true) (sym own) refl
  | inr own ↦ subst (λ u. is_for_reply u ≡ true) (sym own) refl
]

pub granted_usage : (rows : PkinitRows) (exchange : ExchangeRecord) (grant : GrantRecord) (service : AccountRecord) (is : IsGranted rows exchange grant service) → is_for_reply is.under.usage ≡ true
granted_usage rows exchange grant service is = elim is.by [
  | inl first ↦ subst (λ u. is_for_reply u ≡ true) (sym (of_first rows exchange grant is.under service first).usage) refl
  | inr further ↦ further_usage is.under (of_further rows exchange grant is.under service further)
]

-- so no other ciphertext is one
pub no_reply : (rows : PkinitRows) (exchange : ExchangeRecord) (grant : GrantRecord) (service : AccountRecord) (is : IsGranted rows exchange grant service) (usage : ℕ)
    → is_for_reply usage ≡ false → usage ≡ is.under.usage → ⊥
no_reply rows exchange grant service is usage other e =
    false≢true (sym other ∙ subst (λ u. is_for_reply u ≡ true) (sym e) (granted_usage rows exchange grant service is))

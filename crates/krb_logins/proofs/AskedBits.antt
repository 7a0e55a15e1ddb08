-- The bits of kdc-options that a client sets, as the rows of a realm's tables read them.
use Rattle.std.proofs.Common.{◌≡◌, Bool, true, false, not, ◌&&◌, Option, None, refl, ap, ◌∙◌}
use Rattle.std.specs.Prelude.{◌||◌, List, if◌then◌else◌}
use Rattle.picky_asn1.specs.BitString.{bit_of}
use Rattle.krb_messages.specs.declared.data_types.host_address.HostAddress.{HostAddress}
use Rattle.krb_realm_accounts.specs.declared.policy.Policy.{Policy}
use Rattle.krb_kdc_exchanges.specs.Options.{asked_options, grants_renewable, has_option_beyond}
use Rattle.krb_kdc_exchanges.specs.Requests.{has_refused_option, is_postdated}
use Rattle.krb_kdc_exchanges.specs.declared.options.AskedOptions.{AskedOptions}
use Rattle.krb_client.specs.Options.{options_of}
use Rattle.krb_client.specs.declared.options.TicketOptions.{TicketOptions}

-- a forwarded ticket is asked for, a renewed one, or a plain one
abbrev pub asked_by : Bool → Bool → AskedOptions
asked_by forwards renews = record { forwards = forwards; proxies = false; renews = renews }

-- what is asked for only where it is allowed
pub none_beyond : (asked allowed : Bool) → (asked ≡ true → allowed ≡ true) → (asked && not allowed) ≡ false
none_beyond true allowed is = ap not (is refl)
none_beyond false allowed is = refl

kept : (asked allowed : Bool) → (asked ≡ true → allowed ≡ true) → (asked && allowed) ≡ asked
kept true allowed is = is refl
kept false allowed is = refl

module _ (options : TicketOptions) where
  -- in the first octet: neither proxy nor postdated, but perhaps forwarded
  asks_forwarding : bit_of (options_of options) 2 ≡ options.forwards
  asks_forwarding = by options.forwardable options.forwards options.proxiable
    where
      by : (forwardable forwards proxiable : Bool) → bit_of (options_of (record options { forwardable = forwardable; forwards = forwards; proxiable = proxiable })) 2 ≡ forwards
      by true true true = refl
      by true true false = refl
      by true false true = refl
      by true false false = refl
      by false true true = refl
      by false true false = refl
      by false false true = refl
      by false false false = refl

  no_proxy : bit_of (options_of options) 4 ≡ false
  no_proxy = by options.forwardable options.forwards options.proxiable
    where
      by : (forwardable forwards proxiable : Bool) → bit_of (options_of (record options { forwardable = forwardable; forwards = forwards; proxiable = proxiable })) 4 ≡ false
      by true true true = refl
      by true true false = refl
      by true false true = refl
      by true false false = refl
      by false true true = refl
      by false true false = refl
      by false false true = refl
      by false false false = refl

  pub not_postdated : is_postdated (options_of options) ≡ false
  not_postdated = by options.forwardable options.forwards options.proxiable
    where
      by : (forwardable forwards proxiable : Bool) → is_postdated (options_of (record options { forwardable = forwardable; forwards = forwards; proxiable = proxiable })) ≡ false
      by true true true = refl
      by true true false = refl
      by true false true = refl
      by true false false = refl
      by false true true = refl
      by false true false = refl
      by false false true = refl
      by false false false = refl

  -- in the last octet: neither enc-tkt-in-skey nor validate, but perhaps renew
  no_session_key : bit_of (options_of options) 28 ≡ false
  no_session_key = by options.renews
    where
      by : (renews : Bool) → bit_of (options_of (record options { renews = renews })) 28 ≡ false
      by true = refl
      by false = refl

  no_validate : bit_of (options_of options) 31 ≡ false
  no_validate = by options.renews
    where
      by : (renews : Bool) → bit_of (options_of (record options { renews = renews })) 31 ≡ false
      by true = refl
      by false = refl

  asks_renewal : bit_of (options_of options) 30 ≡ options.renews
  asks_renewal = by options.renews
    where
      by : (renews : Bool) → bit_of (options_of (record options { renews = renews })) 30 ≡ renews
      by true = refl
      by false = refl

  -- an AS request asks for neither
  pub none_refused : options.forwards ≡ false → options.renews ≡ false → has_refused_option (options_of options) ≡ false
  none_refused not_forwarded not_renewed =
      λ i. (asks_forwarding ∙ not_forwarded) i || no_proxy i || no_session_key i || (asks_renewal ∙ not_renewed) i || no_validate i

  -- what the policy allows
  module _ (policy : Policy) (may_forward : options.forwards ≡ true → policy.forwardable ≡ true) (may_renew : options.renews ≡ true → grants_renewable policy ≡ true) where
    pub not_beyond : has_option_beyond policy (options_of options) ≡ false
    not_beyond =
        let forwarding : (bit_of (options_of options) 2 && not policy.forwardable) ≡ false =
        ap (λ (b : Bool). b && not policy.forwardable) asks_forwarding ∙ none_beyond options.forwards policy.forwardable may_forward in
        let proxy : (bit_of (options_of options) 4 && not policy.proxiable) ≡ false = ap (λ (b : Bool). b && not policy.proxiable) no_proxy in
        let renewal : (bit_of (options_of options) 30 && not (grants_renewable policy)) ≡ false =
        ap (λ (b : Bool). b && not (grants_renewable policy)) asks_renewal ∙ none_beyond options.renews (grants_renewable policy) may_renew in
        λ i. forwarding i || proxy i || no_session_key i || renewal i || no_validate i

    forwarding_kept : (bit_of (options_of options) 2 && policy.forwardable) ≡ options.forwards
    forwarding_kept = ap (λ (b : Bool). b && policy.forwardable) asks_forwarding ∙ kept options.forwards policy.forwardable may_forward

    renewal_kept : (bit_of (options_of options) 30 && grants_renewable policy) ≡ options.renews
    renewal_kept = ap (λ (b : Bool). b && grants_renewable policy) asks_renewal ∙ kept options.renews (grants_renewable policy) may_renew

    -- is asked for, and nothing else
    pub asked_so : asked_options policy (options_of options) ≡ asked_by options.forwards options.renews
    asked_so = λ i. record {
      forwards = forwarding_kept i;
      proxies = no_proxy i && policy.proxiable;
      renews = renewal_kept i;
    }

-- no addresses, by either option
pub none_either : (b : Bool) → ◌≡◌ {A = Option (List HostAddress)} (if b then None else None) None
none_either true = refl
none_either false = refl

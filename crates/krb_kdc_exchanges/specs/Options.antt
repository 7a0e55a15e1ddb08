-- The options of a request that ask for another ticket than a plain one, as far as a realm's policy allows them (RFC 4120, section 5.4.1).
use Rattle.std.specs.Prelude.{nat_lt, Bool, not, ◌&&◌, ◌||◌}
use Rattle.picky_asn1.specs.BitString.{Bits, bit_of}
use Rattle.krb_constants.specs.declared.kdc_options.TheConstants.{ENC_TKT_IN_SKEY, FORWARDED, PROXY, RENEW, VALIDATE}
use Rattle.krb_realm_accounts.specs.declared.policy.Policy.{Policy}
use Rattle.krb_kdc_exchanges.specs.declared.options.AskedOptions.{AskedOptions}

-- tickets of the realm may be renewed
abbrev pub grants_renewable : Policy → Bool
grants_renewable policy = nat_lt 0 policy.renewable_life

-- of the options of a TGS request, those that the policy allows
abbrev pub asked_options : Policy → Bits → AskedOptions
asked_options policy options = record {
  forwards = bit_of options FORWARDED && policy.forwardable;
  proxies = bit_of options PROXY && policy.proxiable;
  renews = bit_of options RENEW && grants_renewable policy;
}

-- forwarded, proxy or renew, where the policy doesn't allow it, or one of enc-tkt-in-skey and validate, which no policy allows
abbrev pub has_option_beyond : Policy → Bits → Bool
has_option_beyond policy options =
    (bit_of options FORWARDED && not policy.forwardable) || (bit_of options PROXY && not policy.proxiable) || bit_of options ENC_TKT_IN_SKEY
    || (bit_of options RENEW && not (grants_renewable policy)) || bit_of options VALIDATE

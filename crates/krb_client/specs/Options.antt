-- What a request asks of a ticket besides its end (RFC 4120, section 5.4.1). The option for a flag has the flag's bit.
use Rattle.std.specs.Prelude.{◌≡◌, ℕ, ◌+◌, true, false, [], ◌∷◌, Option, None, refl}
use Rattle.std.specs.Option.{option_map}
use Rattle.picky_asn1.specs.BitString.{Bits, bit_of}
use Rattle.picky_asn1.specs.declared.wrapper.GeneralizedTimeAsn1.{GeneralizedTimeAsn1}
use Rattle.picky_asn1_der.specs.declared.wrapper.ExplicitContextTag.{ExplicitContextTag}
use Rattle.krb_tickets.specs.Parts.{masked}
use Rattle.krb_tickets.specs.declared.flag_bits.TheConstants.{FORWARDABLE, FORWARDABLE_MASK, FORWARDED_MASK, PROXIABLE, PROXIABLE_MASK, RENEWABLE_MASK}
use Rattle.krb_client.specs.declared.options.TheConstants.{RENEW_MASK}
use Rattle.krb_client.specs.declared.options.TicketOptions.{TicketOptions}

-- a plain ticket is asked for by none of the options
abbrev pub plain_options : TicketOptions
plain_options = record { forwardable = false; forwards = false; proxiable = false; renewable = false; renews = false; rtime = None }

-- A renewal asks by renew, and for the flags of the ticket to be renewed, which some KDCs take from the request (RFC 4120, section 3.3.3).
abbrev pub renewal_options : Bits → TicketOptions
renewal_options flags = record {
  forwardable = bit_of flags FORWARDABLE;
  forwards = false;
  proxiable = bit_of flags PROXIABLE;
  renewable = true;
  renews = true;
  rtime = None;
}

-- A ticket to be forwarded is asked for by forwarded, and is forwardable again (RFC 4120, section 2.6).
abbrev pub forwarding_options : TicketOptions
forwarding_options = record plain_options { forwardable = true; forwards = true }

-- the first octet: forwardable is bit 1, forwarded bit 2, and proxiable bit 3
abbrev pub front_octet : TicketOptions → ℕ
front_octet options = masked options.forwardable FORWARDABLE_MASK + masked options.forwards FORWARDED_MASK + masked options.proxiable PROXIABLE_MASK

-- the second octet: renewable is bit 8
abbrev pub second_octet : TicketOptions → ℕ
second_octet options = masked options.renewable RENEWABLE_MASK

-- the last octet: renew is bit 30
abbrev pub last_octet : TicketOptions → ℕ
last_octet options = masked options.renews RENEW_MASK

-- kdc-options, as 32 bits: no other one is set
abbrev pub options_of : TicketOptions → Bits
options_of options = record { octets = front_octet options ∷ second_octet options ∷ 0x00 ∷ last_octet options ∷ []; unused = 0 }

-- rtime, if it is given
abbrev pub rtime_of : TicketOptions → Option (ExplicitContextTag 6 GeneralizedTimeAsn1)
rtime_of options = option_map (λ time. record { 0 = record { 0 = time } }) options.rtime

-- worked: forwardable, proxiable and renewable, as kinit -f -p -r asks, and a renewal of a forwardable ticket
asked_at_first : options_of (record plain_options { forwardable = true; proxiable = true; renewable = true }) ≡ record { octets = 0x50 ∷ 0x80 ∷ 0x00 ∷ 0x00 ∷ []; unused = 0 }
asked_at_first = refl

renewed_forwardable : options_of (record plain_options { forwardable = true; renewable = true; renews = true }) ≡ record { octets = 0x40 ∷ 0x80 ∷ 0x00 ∷ 0x02 ∷ []; unused = 0 }
renewed_forwardable = refl

-- worked: a ticket to be forwarded
to_forward : options_of forwarding_options ≡ record { octets = 0x60 ∷ 0x00 ∷ 0x00 ∷ 0x00 ∷ []; unused = 0 }
to_forward = refl

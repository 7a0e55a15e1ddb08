-- The bits of flags as octets (RFC 4120, section 5.2.8): bit 0 is the most significant one of the first octet.
use Rattle.std.specs.Prelude.{◌≡◌, refl}
use Rattle.krb_tickets.specs.declared.flag_bits.TheConstants.{FORWARDABLE_MASK, FORWARDED_MASK, PROXIABLE_MASK, PROXY_MASK, RENEWABLE_MASK}

forwardable : FORWARDABLE_MASK ≡ 0x40
forwardable = refl

forwarded : FORWARDED_MASK ≡ 0x20
forwarded = refl

proxiable : PROXIABLE_MASK ≡ 0x10
proxiable = refl

proxy : PROXY_MASK ≡ 0x08
proxy = refl

renewable : RENEWABLE_MASK ≡ 0x80
renewable = refl

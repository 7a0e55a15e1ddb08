-- The bits of flags as octets (RFC 4120, section 5.2.8): bit 0 is the most significant one of the first octet.
use Rattle.std.specs.Prelude.{◌≡◌, refl}
use Rattle.krb_constants.specs.declared.ap_options.TheConstants.{MUTUAL_REQUIRED_MASK}
use Rattle.krb_constants.specs.declared.ticket_flags.TheConstants.{INITIAL_MASK, PRE_AUTHENT_MASK}

mutual_required : MUTUAL_REQUIRED_MASK ≡ 0x20
mutual_required = refl

initial : INITIAL_MASK ≡ 0x40
initial = refl

pre_authent : PRE_AUTHENT_MASK ≡ 0x20
pre_authent = refl

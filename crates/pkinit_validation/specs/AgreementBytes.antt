-- The random bytes of a realm's agreement (RFC 4556, section 3.2.3.1).
use Rattle.picky_asn1.specs.Bytes.{Bytes}
use Rattle.krb_messages.specs.RandomBytes.{Random, random_part}
use Rattle.krb_messages.specs.declared.random_bytes.TheConstants.{AGREEMENT_SIZE, REALM_AGREEMENT}

-- the random bytes of the realm's agreement among those of a call
abbrev pub agreement_bytes : Random → Bytes
agreement_bytes = random_part REALM_AGREEMENT AGREEMENT_SIZE

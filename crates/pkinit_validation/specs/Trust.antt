-- Whom a realm trusts to issue its clients' certificates, and how it is trusted itself (RFC 4556, section 3.2).
use Rattle.std.specs.Prelude.{Option}
use Rattle.std.specs.Borrow.{Bor}
use Rattle.std.specs.Option.{option_copied}
use Rattle.picky_asn1.specs.Bytes.{Bytes}
use Rattle.pkinit_validation.specs.Anchors.{AnchorRecord}

-- the realm's anchor, and its own certificate
pub record TrustRecord : Type 0 where
  pub anchor : Option AnchorRecord
  pub certificate : Option Bytes

-- The realm's anchor and its own certificate, where it has them (RFC 4556, section 3.2).
abbrev pub trust_of : Option (Bor AnchorRecord) → Option (Bor Bytes) → TrustRecord
trust_of anchor certificate = record { anchor = option_copied anchor; certificate = option_copied certificate }

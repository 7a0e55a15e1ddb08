-- The principal that is expected to have signed some content.
use Rattle.std.specs.Prelude.{List}
use Rattle.picky_asn1.specs.Bytes.{Bytes}
use Rattle.krb_time.specs.Units.{Micros}
use Rattle.pkinit_validation.specs.Anchors.{AnchorRecord}
use Rattle.pkinit_validation.specs.declared.expected.ExpectedSigner as held

-- a principal by its realm and components, the anchor that has to have issued its certificate, and the moment
pub record ExpectedRecord : Type 0 where
  pub realm : Bytes
  pub name : List Bytes
  pub anchor : AnchorRecord
  pub moment : Micros

-- The principal that is expected to have signed, with its anchor and the moment (RFC 4556, sections 3.2.2 and 3.2.4).
abbrev pub expected_of : held.ExpectedSigner → ExpectedRecord
expected_of expected = record {
  realm = expected.realm.now;
  name = expected.name.now;
  anchor = expected.anchor.now;
  moment = expected.moment;
}

-- What a service remembers of the authenticators that it has admitted (RFC 4120, section 3.2.3).
use Rattle.std.specs.Prelude.{◌≡◌, ◌%◌, ◌&&◌, List}
use Rattle.krb_time.specs.Units.{Micros}
use Rattle.krb_service.specs.Pair.{PairRecord, is_among, is_recent}

-- the greatest moment that was handed in, the skew, and the pairs held
pub record SeenRecord : Type 0 where
  pub greatest : Micros
  pub skew : Micros
  pub held : List PairRecord

-- a span of whole seconds
abbrev pub IsWholeSeconds : Micros → Type 0
IsWholeSeconds span = span % 1000000 ≡ 0

-- exactly those pairs are held that were ever admitted and are recent
abbrev pub IsWindow : SeenRecord → List PairRecord → Type 0
IsWindow seen admitted =
    (pair : PairRecord) → is_among pair seen.held ≡ (is_among pair admitted && is_recent seen.skew seen.greatest pair)

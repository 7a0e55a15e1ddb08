-- What a certificate says of its key, as a borrowed value or none.
use Rattle.std.proofs.Common.{◌≡◌, Option, None, Some, sym}
use Rattle.std.specs.Prelude.{MatchOption}
use Rattle.std.specs.Borrow.{Bor}
use Rattle.std.specs.Option.{option_copied}
use Rattle.picky_asn1.specs.Bytes.{Bytes}

pub copied_is : (found : Option (Bor Bytes)) (held : Option Bytes) → MatchOption found (held ≡ None) (λ key. held ≡ Some key.now) → option_copied found ≡ held
copied_is None held is = sym is
copied_is (Some key) held is = sym is

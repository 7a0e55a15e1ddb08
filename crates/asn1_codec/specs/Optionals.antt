-- A value that is read where one begins.
use Rattle.std.specs.Prelude.{◌≡◌, Bool, true, false, Option, None, Some}
use Rattle.asn1_der.specs.Tree.{Tree}
use Rattle.asn1_codec.specs.Reading.{Reading, TookValue}

-- a value was taken where one begins, and else nothing
abbrev pub ReadIf : {T : Type 0} → (T → Tree) → Bool → Option T → Reading → Reading → Type 0
ReadIf tree begins None old new = (begins ≡ false) × (new ≡ old)
ReadIf tree begins (Some value) old new = (begins ≡ true) × TookValue tree value old new

-- A field that is left out where it has its default value (X.690, section 11.5).
use Rattle.std.specs.Prelude.{Bool, true, false, Option, None, Some}

-- what is written of the value, by whether it is the default
abbrev pub unless : {A : Type 0} → Bool → A → Option A
unless true value = None
unless false value = Some value

-- A default value is left out (X.690, section 11.5). Test: `critical of an extension spelled out as FALSE` of `deviations.txt`.
abbrev pub told_value : {A : Type 0} → (A → Bool) → A → Option A
told_value is_default value = unless (is_default value) value

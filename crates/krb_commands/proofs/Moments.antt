-- The moment that an option's value names.
use Rattle.std.proofs.Common.{◌≡◌, Option, Some, Result, Ok, sym}
use Rattle.krb_time.specs.Calendar.{IsMomentOfText}
use Rattle.krb_time.specs.Units.{Micros}
use Rattle.krb_commands.specs.Arguments.{IsGivenMoment, Text}

-- the value is a text, and the moment is that text's
pub is_given : (value : Result (Option Text) Text) (given : Option Text) (text bytes : Text) (moment : Micros) → value ≡ Ok given → given ≡ Some text
    → bytes ≡ text → IsMomentOfText bytes moment → IsGivenMoment value (Some moment)
is_given value given text bytes moment is some same told = rw is (rw some (rw (sym same) told))

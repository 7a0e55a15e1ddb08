-- The moment that a text names.
use Rattle.std.proofs.Common.{◌≡◌, Option, Some, sym}
use Rattle.krb_time.specs.Calendar.{IsMomentOfText}
use Rattle.krb_time.specs.Units.{Micros}
use Rattle.krb_kdcd.specs.Commands.{IsGivenMoment, Text}

-- the text is given, and the moment is that of its octets
pub is_given : (given : Option Text) (text bytes : Text) (moment : Micros) → given ≡ Some text → bytes ≡ text → IsMomentOfText bytes moment → IsGivenMoment given (Some moment)
is_given given text bytes moment some same told = rw some (rw (sym same) told)

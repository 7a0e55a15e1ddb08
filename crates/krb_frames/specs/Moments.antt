-- One moment for all messages.
use Rattle.std.specs.Prelude.{ℕ, List, replicate}
use Rattle.krb_time.specs.Units.{Micros}

-- more than a stream has messages: 2^64 - 1
unfoldable pub most_messages : ℕ
most_messages = 18446744073709551615

abbrev pub each_time : Micros → List Micros
each_time moment = replicate most_messages moment

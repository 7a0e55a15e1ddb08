-- The program's status, and its last line.
use Rattle.std.specs.Prelude.{ℕ, ◌++◌, List, [], Option, Some, None, codes}
use Rattle.krb_frames.specs.declared.fault.ServeFault.{ServeFault}
use Rattle.krb_frames.specs.declared.fault.ServeFault.TheVariants as fault
use Rattle.krb_programs.specs.declared.arguments.ArgumentsFault.{ArgumentsFault}
use Rattle.krb_programs.specs.declared.arguments.ArgumentsFault.TheVariants as arguments
use Rattle.krb_kdcd.specs.declared.stop.Device.{Device}
use Rattle.krb_kdcd.specs.declared.stop.Device.TheVariants as device
use Rattle.krb_kdcd.specs.declared.stop.Stop.{Stop}
use Rattle.krb_kdcd.specs.declared.stop.Stop.TheVariants.{Arguments, Moment, Database, Words, FixedWords, RepeatedWords, Memory, Serving}

-- Why the program stops that can't read its arguments.
abbrev pub stop_of_arguments : ArgumentsFault → Stop
stop_of_arguments arguments.NotText = Arguments
stop_of_arguments arguments.Memory = Memory

-- 1 if nothing was served, 2 if serving stopped early
abbrev pub status_of : Stop → ℕ
status_of Arguments = 1
status_of (Moment text) = 1
status_of (Database path fault) = 1
status_of (Words path kind) = 1
status_of (FixedWords path) = 1
status_of (RepeatedWords path) = 1
status_of Memory = 1
status_of (Serving device fault) = 2

-- What is wrong where serving stopped, and what was expected.
abbrev pub serving_text : ServeFault → List ℕ
serving_text fault.Truncated = codes "standard input: ended within a frame: expected a message of the length before it"
serving_text fault.FrameTooLong = codes "standard input: a length over 65536: expected four octets, the highest first"
serving_text fault.NoRequest = codes "standard input: no request: expected an AS or a TGS request"
serving_text fault.Read = codes "can't be read: expected a device that works"
serving_text fault.Write = codes "standard output: can't be written: expected a reader of replies"
serving_text fault.NoWords = codes "ended: expected 128 random octets for each message"
serving_text fault.NoMoment = codes "clock: can't be read: expected a time before the year 10000"
serving_text fault.ReplyTooLong = codes "standard output: a reply of over 65536 octets: expected at most as many"
serving_text fault.Memory = codes "out of memory: expected room for a message and its reply"
serving_text fault.Accounts = codes "accounts: no reply: expected a database that can be read"

-- What precedes the words of a device's fault.
abbrev pub device_text : Device → List ℕ
device_text device.Stream = []
device_text (device.Words path) = path.now ++ codes ": "

-- The line of a stop. The words of a system's fault have no contract, so a line that shows one has none.
abbrev pub stop_text : Stop → Option (List ℕ)
stop_text Arguments = Some (codes "arguments: expected DATABASE WORDS [--log] [--fixed-words] [--at MOMENT], --help or --version")
stop_text (Moment text) = Some (text.now ++ codes ": names no moment: expected a time (UTC), as 20261128040000Z")
stop_text (Database path fault) = None
stop_text (Words path kind) = None
stop_text (FixedWords path) = Some (path.now ++ codes ": is a regular file: expected a device of random octets, as /dev/urandom, or --fixed-words for a test")
stop_text (RepeatedWords path) = Some (path.now ++ codes ": gives one octet again and again: expected random octets, as /dev/urandom")
stop_text Memory = Some (codes "out of memory: expected room for the realm's record")
stop_text (Serving device fault) = Some (device_text device ++ serving_text fault)

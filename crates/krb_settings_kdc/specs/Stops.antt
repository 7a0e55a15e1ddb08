-- Why the program krb_realm stops: its status, and what its line says after the program's name.
use Rattle.std.specs.Prelude.{ℕ, List, codes}
use Rattle.krb_programs.specs.declared.arguments.ArgumentsFault.{ArgumentsFault}
use Rattle.krb_programs.specs.declared.arguments.ArgumentsFault.TheVariants as arguments
use Rattle.krb_frames.specs.declared.fault.ServeFault.{ServeFault}
use Rattle.krb_frames.specs.declared.fault.ServeFault.TheVariants.{Truncated, FrameTooLong, NoRequest, Read, Write, NoWords, NoMoment, ReplyTooLong, Memory, Accounts}
use Rattle.krb_settings_kdc.specs.declared.fault.RealmFault.{RealmFault}
use Rattle.krb_settings_kdc.specs.declared.fault.RealmFault.TheVariants as realm_fault
use Rattle.krb_settings_kdc.specs.declared.stop.Stop.{Stop}
use Rattle.krb_settings_kdc.specs.declared.stop.Stop.TheVariants.{BadArguments, BadSettings, Fault}

-- why the program stops by a fault of its file
abbrev pub stop_of_realm : RealmFault → Stop
stop_of_realm realm_fault.Memory = Fault Memory
stop_of_realm _ = BadSettings

-- why the program stops that can't read its arguments
abbrev pub stop_of_arguments : ArgumentsFault → Stop
stop_of_arguments arguments.NotText = BadArguments
stop_of_arguments arguments.Memory = Fault Memory

-- 1 where nothing was served, 2 where serving stopped early, or where memory ran out before it
abbrev pub status_of : Stop → ℕ
status_of BadArguments = 1
status_of BadSettings = 1
status_of (Fault _) = 2

-- the name of a fault that stopped serving
abbrev pub fault_name : ServeFault → List ℕ
fault_name Truncated = codes "Truncated"
fault_name FrameTooLong = codes "FrameTooLong"
fault_name NoRequest = codes "NoRequest"
fault_name Read = codes "Read"
fault_name Write = codes "Write"
fault_name NoWords = codes "NoWords"
fault_name NoMoment = codes "NoMoment"
fault_name ReplyTooLong = codes "ReplyTooLong"
fault_name Memory = codes "Memory"
fault_name Accounts = codes "Accounts"

-- what the line says after the program's name
abbrev pub stop_text : Stop → List ℕ
stop_text BadArguments = codes "bad arguments"
stop_text BadSettings = codes "bad settings"
stop_text (Fault fault) = fault_name fault

use Rattle.krb_messages.specs.NameReading.{octets}
use Rattle.krb_messages.proofs.NamesRead.{IsSoFar}
use Rattle.krb_messages.proofs.name_reading.parts.Given as goal

abbrev pub invariant-loop-octet : goal.invariant-loop-octet
invariant-loop-octet l = IsSoFar l.text l.octet-index (octets l.parts.items) l.part.items l.quoted

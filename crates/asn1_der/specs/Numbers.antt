-- The numbers of the faults.
use Rattle.std.specs.Prelude.{ℕ}
use Rattle.asn1_der.specs.declared.error.Asn1DerError.{Asn1DerError}
use Rattle.asn1_der.specs.declared.error.Asn1DerError.TheVariants.{TruncatedData, InvalidData, UnsupportedValue, UnsupportedType, InvalidSink, Message, Other, Memory}

-- the number of a fault, from 1 to 8, which no other variant has
abbrev pub fault_number : Asn1DerError → ℕ
fault_number TruncatedData = 1
fault_number InvalidData = 2
fault_number UnsupportedValue = 3
fault_number UnsupportedType = 4
fault_number InvalidSink = 5
fault_number (Message rule) = 6
fault_number (Other kind) = 7
fault_number Memory = 8

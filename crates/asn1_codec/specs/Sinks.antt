-- A sink's fault, as a serializer answers it.
use Rattle.byte_streams.specs.declared.exact.WholeFault.{WholeFault}
use Rattle.byte_streams.specs.declared.exact.WholeFault.TheVariants as whole
use Rattle.asn1_der.specs.declared.error.Asn1DerError.{Asn1DerError}
use Rattle.asn1_der.specs.declared.error.Asn1DerError.TheVariants.{InvalidSink, UnsupportedValue, Memory, Other}

-- the error of a serializer whose sink has this fault
abbrev pub sink_fault : WholeFault → Asn1DerError
sink_fault whole.Full = InvalidSink
sink_fault (whole.Failed kind) = Other kind
sink_fault whole.Memory = Memory

-- the fault for a length of 2^64 or more: `UnsupportedValue` in place of `Memory`
abbrev pub as_too_long : Asn1DerError → Asn1DerError
as_too_long Memory = UnsupportedValue
as_too_long fault = fault

-- the fault of a write into a slice: `InvalidSink` in place of `Memory`
abbrev pub as_full : Asn1DerError → Asn1DerError
as_full Memory = InvalidSink
as_full fault = fault

-- The checksum of an initiator's authenticator (RFC 4121, section 4.1.1): its type is 0x8003, and it has the length 16 of the channel
-- bindings in four octets, the lowest first, the bindings, and the flags in four octets, the lowest first.
use Rattle.std.specs.Prelude.{◌==◌, ◌||◌, not, bytes_eq, nat_lt, length, replicate, take, drop, Option, None, Some, Result, Ok, Err, if◌then◌else◌}
use Rattle.picky_asn1.specs.Bytes.{Bytes}
use Rattle.picky_asn1.specs.Numbers.{is_number}
use Rattle.byte_streams.specs.Numbers.{le32_at}
use Rattle.krb_constants.specs.declared.cksum_types.TheConstants.{GSS_API}
use Rattle.krb_messages.specs.declared.data_types.checksum.Checksum.{Checksum}
use Rattle.gss_acceptor.specs.declared.checksum.TheConstants.{BINDINGS, SIZE}
use Rattle.gss_acceptor.specs.declared.checksum.InitialChecksum.{InitialChecksum}
use Rattle.gss_acceptor.specs.declared.refusal.AcceptRefusal.{AcceptRefusal}
use Rattle.gss_acceptor.specs.declared.refusal.AcceptRefusal.TheVariants.{NoChecksum, OtherBindings, OtherChecksum}

-- what a checksum's octets say
-- Not judged: the flags, which the caller gets, and without the flag of delegation the octets after the flags (RFC 4121, sections 4.1.1 and
-- 4.1.1.1). Test: `Octets after the flags, which aren't read.`.
abbrev pub initial_sum : Bytes → Result InitialChecksum AcceptRefusal
initial_sum octets =
    -- The checksum has 24 octets or more, and its first field, the length of the channel bindings, is 16 (RFC 4121, section 4.1.1).
    -- Test: `Refused after the admission.`.
    if nat_lt (length octets) SIZE then Err OtherChecksum
    else (if not (le32_at 0 octets == BINDINGS) then Err OtherChecksum
    else Ok (record { bindings = take 16 (drop 4 octets); flags = record { 0 = le32_at 20 octets } }))

-- what a checksum says, or that it isn't an initiator's
abbrev pub initial_of : Checksum → Result InitialChecksum AcceptRefusal
initial_of checksum =
    -- The authenticator has a checksum of type 0x8003 (RFC 4121, section 4.1.1). Test: `Refused after the admission.`.
    if not (is_number GSS_API checksum.cksumtype.0) then Err NoChecksum else initial_sum checksum.checksum.0

-- what the checksum of an authenticator says, if it has one
abbrev pub initial_in : Option Checksum → Result InitialChecksum AcceptRefusal
initial_in None = Err NoChecksum
initial_in (Some checksum) = initial_of checksum

-- the initiator hands in no channel bindings (RFC 4121, section 4.1.1.2)
abbrev pub no_bindings : Bytes
no_bindings = replicate 16 0

-- what the checksum says, by the acceptor's channel bindings
abbrev pub bound_by : Option Bytes → InitialChecksum → Result InitialChecksum AcceptRefusal
bound_by None initial = Ok initial
bound_by (Some bindings) initial =
    -- Where both sides hand in channel bindings they are the same. An initiator without any has 16 zeros (RFC 2743, section 1.1.6; RFC 4121,
    -- section 4.1.1.2). Test: `Channel bindings`.
    if bytes_eq initial.bindings no_bindings || bytes_eq initial.bindings bindings then Ok initial else Err OtherBindings

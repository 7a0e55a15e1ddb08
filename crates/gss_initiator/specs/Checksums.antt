-- The checksum of an initiator's authenticator (RFC 4121, section 4.1.1).
use Rattle.std.specs.Prelude.{◌++◌, length, nat_le, nat_lt, Bool, ◌||◌, Option, None, Some, pos, replicate, if◌then◌else◌}
use Rattle.picky_asn1.specs.Bytes.{Bytes}
use Rattle.byte_streams.specs.Numbers.{le32}
use Rattle.md5.specs.Md5.{md5}
use Rattle.krb_constants.specs.declared.cksum_types.TheConstants.{GSS_API}
use Rattle.krb_messages.specs.declared.data_types.checksum.Checksum.{Checksum}
use Rattle.gss_contexts.specs.Tokens.{is_set}
use Rattle.gss_acceptor.specs.declared.context_flags.TheConstants.{DELEGATION, MUTUAL, SEQUENCE}
use Rattle.gss_acceptor.specs.declared.checksum.TheConstants.{BINDINGS}
use Rattle.gss_acceptor.specs.declared.checksum.ContextFlags.{ContextFlags}
use Rattle.gss_acceptor.specs.declared.checksum.InitialChecksum.{InitialChecksum}

-- the octets of channel bindings without addresses: type and length of both addresses are zeros, and the application data's length is in
-- four octets, the lowest first (RFC 4121, section 4.1.1.2)
abbrev pub binding_octets : Bytes → Bytes
binding_octets application = (replicate 16 0 ++ le32 (length application)) ++ application

-- their hash
abbrev pub bindings_of : Bytes → Option Bytes
bindings_of application = if nat_lt (length application) 4294967296 then Some (md5 (binding_octets application)) else None

-- the octets of the checksum with these bindings and flags
abbrev pub initial_octets : InitialChecksum → Bytes
initial_octets initial = (le32 BINDINGS ++ initial.bindings) ++ le32 initial.flags.0

-- The checksum has the type 0x8003. Its octets are the length 16 of the hash of the channel bindings, the hash, and the flags. The numbers
-- are in four octets, the lowest first (RFC 4121, section 4.1.1). Test: `initiate Established`.
abbrev pub initial_checksum : InitialChecksum → Checksum
initial_checksum initial = record { cksumtype = record { 0 = pos GSS_API }; checksum = record { 0 = initial_octets initial } }

-- Flags are refused that ask for what isn't offered: delegation, which is 1, DCE style, and any other of 64 and more (RFC 4121, section
-- 4.1.1.1).
-- Test: `initiate NotOffered`.
abbrev pub is_beyond : ContextFlags → Bool
is_beyond flags = is_set flags.0 DELEGATION || nat_le 64 flags.0

-- the initiator asks for an AP-REP (RFC 4121, section 4.1.1.1)
abbrev pub is_mutual : ContextFlags → Bool
is_mutual flags = is_set flags.0 MUTUAL

-- The initiator's flag 8 asks for sequencing: its end then takes each number in turn (RFC 4121, section 4.1.1.1).
-- Test: `An initiator in sequence`.
abbrev pub is_in_sequence : ContextFlags → Bool
is_in_sequence flags = is_set flags.0 SEQUENCE

-- Why no token was read, or none written.
use Rattle.std.specs.Prelude.{◌≡◌, ℕ, ◌<◌, List, length, take, Option, ⊤, ◌⊎◌, Result, Ok, Err}
use Rattle.std.specs.String.{string_bytes}
use Rattle.std.specs.Io.KnownBytes.{Appends}
use Rattle.std.specs.declared.io.ErrorKind.{ErrorKind}
use Rattle.std.specs.declared.io.ErrorKind.TheVariants.{OutOfMemory, UnexpectedEof}
use Rattle.asn1_der.specs.declared.error.Unsupported.{Unsupported}
use Rattle.asn1_der.specs.Refusals.{RefusedAs}
use Rattle.asn1_leaves.specs.ObjectIdentifier.{dotted_text}
use Rattle.byte_streams.specs.Stops.{IsWriteStop}
use Rattle.gss_contexts.specs.declared.message_tokens.error.GssApiMessageError.{GssApiMessageError}
use Rattle.gss_contexts.specs.declared.message_tokens.error.GssApiMessageError.TheVariants.{InvalidId, InvalidMechanismOid, IoError, InvalidMicFiller, InvalidWrapFiller, Asn1Error, Memory}
use Rattle.picky_asn1.specs.declared.wrapper.ObjectIdentifierAsn1.{ObjectIdentifierAsn1}
use Rattle.gss_contexts.specs.ContextTokens.{IsOfMechanism, IsTold, iakerb, proxy_id}

-- memory ran out, or nothing fits
abbrev pub IsUnread : {T : Type 0} → (T → Type 0) → GssApiMessageError → Type 0
IsUnread fits Memory = ⊤
IsUnread {T} fits (Asn1Error fault) = (value : T) → fits value → ⊥
IsUnread fits (IoError kind) = ⊥
IsUnread fits (InvalidId wanted there) = ⊥
IsUnread fits (InvalidMechanismOid wanted there) = ⊥
IsUnread fits (InvalidMicFiller there) = ⊥
IsUnread fits (InvalidWrapFiller there) = ⊥

-- a token begins the bytes, in which fewer than the two octets of a token id follow the mechanism
abbrev pub EndsEarly : List ℕ → Type 0
EndsEarly bytes = (mechanism : ObjectIdentifierAsn1) × (inner : List ℕ) × IsOfMechanism bytes mechanism inner × (length inner < 2)

-- why no message was read: an I/O error says that the token's content ends before one
abbrev pub IsTokenRefusal : {T : Type 0} → (T → Type 0) → List ℕ → GssApiMessageError → Type 0
IsTokenRefusal fits bytes Memory = ⊤
IsTokenRefusal {T} fits bytes (Asn1Error fault) = (value : T) → fits value → ⊥
IsTokenRefusal {T} fits bytes (IoError kind) = ((value : T) → fits value → ⊥) × (kind ≡ UnexpectedEof) × EndsEarly bytes
IsTokenRefusal fits bytes (InvalidId wanted there) = ⊥
IsTokenRefusal fits bytes (InvalidMechanismOid wanted there) = ⊥
IsTokenRefusal fits bytes (InvalidMicFiller there) = ⊥
IsTokenRefusal fits bytes (InvalidWrapFiller there) = ⊥

-- a token of another mechanism is there
abbrev pub HasOtherMechanism : List ℕ → Type 0
HasOtherMechanism bytes = (mechanism : ObjectIdentifierAsn1) × (inner : List ℕ) × IsOfMechanism bytes mechanism inner × (mechanism ≡ iakerb → ⊥)

-- a token of this mechanism with another id
abbrev pub HasOtherId : List ℕ → Type 0
HasOtherId bytes = (inner id message : List ℕ) × IsOfMechanism bytes iakerb inner × IsTold inner id message × (id ≡ proxy_id → ⊥)

-- memory ran out, or it isn't IAKERB, and both are told as text
abbrev pub IsOtherMechanism : ObjectIdentifierAsn1 → GssApiMessageError → Type 0
IsOtherMechanism mechanism Memory = ⊤
IsOtherMechanism mechanism (InvalidMechanismOid wanted there) =
    (mechanism ≡ iakerb → ⊥) × (string_bytes wanted ≡ dotted_text iakerb.0) × (string_bytes there ≡ dotted_text mechanism.0)
IsOtherMechanism mechanism fault = ⊥

-- why no message of IAKERB was read: the mechanism is judged first, then the id. Elsewhere neither is another
abbrev pub IsProxyRefusal : {T : Type 0} → (T → Type 0) → List ℕ → GssApiMessageError → Type 0
IsProxyRefusal fits bytes Memory = ⊤
IsProxyRefusal fits bytes (InvalidMechanismOid wanted there) =
    (mechanism : ObjectIdentifierAsn1) × (inner : List ℕ) × IsOfMechanism bytes mechanism inner
    × IsOtherMechanism mechanism (InvalidMechanismOid wanted there)
IsProxyRefusal fits bytes (InvalidId wanted there) =
    (inner message : List ℕ) × IsOfMechanism bytes iakerb inner × IsTold inner there message × (there ≡ proxy_id → ⊥) × (wanted ≡ proxy_id)
IsProxyRefusal {T} fits bytes (Asn1Error fault) = ((value : T) → fits value → ⊥) × (HasOtherMechanism bytes → ⊥) × (HasOtherId bytes → ⊥)
IsProxyRefusal {T} fits bytes (IoError kind) =
    ((value : T) → fits value → ⊥) × (HasOtherMechanism bytes → ⊥) × (HasOtherId bytes → ⊥) × (kind ≡ UnexpectedEof) × EndsEarly bytes
IsProxyRefusal fits bytes (InvalidMicFiller there) = ⊥
IsProxyRefusal fits bytes (InvalidWrapFiller there) = ⊥

-- memory ran out, or the type of what is written refuses it
abbrev pub IsUnwritten : Option Unsupported → GssApiMessageError → Type 0
IsUnwritten refusal Memory = ⊤
IsUnwritten refusal (Asn1Error fault) = RefusedAs refusal fault
IsUnwritten refusal fault = ⊥

-- what a write that stopped is answered by
abbrev pub stop_fault : ErrorKind → GssApiMessageError
stop_fault OutOfMemory = Memory
stop_fault kind = IoError kind

-- a front of the bytes was written, and then the device stopped, and counted it
pub record IsStopped (bytes : List ℕ) (before after : Option (List ℕ)) (old new : ℕ) (last : Option ErrorKind) (fault : GssApiMessageError) : Type 0 where
  pub count : ℕ
  pub front : Appends before after (take count bytes)
  pub kind : ErrorKind
  pub stop : IsWriteStop old new last kind
  pub answered : fault ≡ stop_fault kind

-- the bytes were written, or a front of them; nothing at all where they weren't made
abbrev pub IsWritten : {A : Type 0} → Option Unsupported → List ℕ → Option (List ℕ) → Option (List ℕ) → ℕ → ℕ → Option ErrorKind → Result A GssApiMessageError → Type 0
IsWritten refusal bytes before after old new last (Ok done) = Appends before after bytes × (new ≡ old)
IsWritten refusal bytes before after old new last (Err fault) =
    (IsUnwritten refusal fault × (after ≡ before) × (new ≡ old)) ⊎ IsStopped bytes before after old new last fault

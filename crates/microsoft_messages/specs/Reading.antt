-- What is read as a frame, and why none was read.
use Rattle.std.specs.Prelude.{◌≡◌, ℕ, ◌≤◌, ◌<◌, List, ◌++◌, length, Option, Some, ◌⊎◌}
use Rattle.std.specs.Io.KnownBytes.{Consumes}
use Rattle.std.specs.declared.io.ErrorKind.{ErrorKind}
use Rattle.std.specs.declared.io.ErrorKind.TheVariants.{OutOfMemory, InvalidData, UnexpectedEof}
use Rattle.byte_streams.specs.Counting.{one_more}
use Rattle.asn1_der.specs.declared.error.Asn1DerError.{Asn1DerError}
use Rattle.asn1_der.specs.declared.error.Asn1DerError.TheVariants as der
use Rattle.asn1_der.specs.Seen.{Seen, seen_pair, seen_part}
use Rattle.byte_streams.specs.Stops.{FailedAtMostOnce, IsReadStop}
use Rattle.byte_streams.specs.Numbers.{be16_at}
use Rattle.krb_constants.specs.declared.krb_priv.TheConstants.{PROTOCOL_VERSION}
use Rattle.microsoft_messages.specs.Frames.{IsFramed}
use Rattle.microsoft_messages.specs.declared.frame.KrbPrivFrame.{KrbPrivFrame}

-- a version is there, and it isn't 1
abbrev pub HasOtherVersion : List ℕ → Type 0
HasOtherVersion bytes = (4 ≤ length bytes) × (be16_at 2 bytes ≡ PROTOCOL_VERSION → ⊥)

-- what is wrong with bytes as the front of a frame: another version, or else their end before the sixth
abbrev pub IsHeaderFault : List ℕ → ErrorKind → Type 0
IsHeaderFault bytes e =
    ((e ≡ InvalidData) × HasOtherVersion bytes) ⊎ ((e ≡ UnexpectedEof) × (length bytes < 6) × (HasOtherVersion bytes → ⊥))

-- what a fault of DER is answered by
abbrev pub der_kind : Asn1DerError → ErrorKind
der_kind der.Memory = OutOfMemory
der_kind (der.Other kind) = kind
der_kind fault = InvalidData

-- the device failed with this kind of fault, and counted it
abbrev pub IsDeviceFault : ℕ → ℕ → Option ErrorKind → ErrorKind → Type 0
IsDeviceFault old new last e = (new ≡ one_more old) × (last ≡ Some e)

-- the device failed; where the bytes have another version, before all of that came. `after` is what is left behind what came
pub record IsBroken (bytes : List ℕ) (after : Option (List ℕ)) (old new : ℕ) (last : Option ErrorKind) (e : ErrorKind) : Type 0 where
  pub device : IsDeviceFault old new last e
  pub early : HasOtherVersion bytes → (came : List ℕ) × Consumes (Some bytes) after came × (length came < 4)

-- no header was read
abbrev pub IsHeaderRefusal : List ℕ → Option (List ℕ) → ℕ → ℕ → Option ErrorKind → ErrorKind → Type 0
IsHeaderRefusal bytes after old new last e = IsBroken bytes after old new last e ⊎ IsHeaderFault bytes e

-- memory ran out, or the device failed
abbrev pub IsExcuse : ℕ → ℕ → Option ErrorKind → ErrorKind → Type 0
IsExcuse old new last e = (e ≡ OutOfMemory) ⊎ IsDeviceFault old new last e

-- the most bytes of an element that is read from a device: 10,240
abbrev pub element_limit : ℕ
element_limit = 10240

-- the frame of two values, each read from as many bytes at most
pub record IsFramedAs {A P : Type 0} (reads_ap : A → List ℕ → Type 0) (reads_private : P → List ℕ → Type 0) (a : A) (p : P) (whole : List ℕ) : Type 0 where
  pub ap : List ℕ
  pub private : List ℕ
  pub ap_read : reads_ap a ap
  pub private_read : reads_private p private
  pub ap_fits : length ap ≤ element_limit
  pub private_fits : length private ≤ element_limit
  pub framed : IsFramed ap private whole

-- the bytes begin with the frame of these values
abbrev pub BeginsFramed : {A P : Type 0} → (A → List ℕ → Type 0) → (P → List ℕ → Type 0) → A → P → List ℕ → Type 0
BeginsFramed reads_ap reads_private a p bytes =
    (whole rest : List ℕ) × IsFramedAs reads_ap reads_private a p whole × (bytes ≡ whole ++ rest)

-- what two frames that are read alike have in common: all, where two parts that are read alike are the same
abbrev pub seen_frame : {A P : Type 0} → Seen A → Seen P → Seen (KrbPrivFrame A P)
seen_frame ap private = seen_part (λ m. (m.ap_message, m.krb_priv)) (seen_pair ap private)

-- the bytes begin with no frame
abbrev pub IsUnframed : {A P : Type 0} → (A → List ℕ → Type 0) → (P → List ℕ → Type 0) → List ℕ → Type 0
IsUnframed {A} {P} reads_ap reads_private bytes = (a : A) (p : P) → BeginsFramed reads_ap reads_private a p bytes → ⊥

-- a header is in front, and behind it no two parts
pub record HasNoParts {A P : Type 0} (reads_ap : A → List ℕ → Type 0) (reads_private : P → List ℕ → Type 0) (bytes : List ℕ) : Type 0 where
  pub long : 6 ≤ length bytes
  pub version : be16_at 2 bytes ≡ PROTOCOL_VERSION
  pub none : IsUnframed reads_ap reads_private bytes

-- why no frame was read: memory ran out, a device failed, or the header or the parts are wrong
abbrev pub IsRefusal : {A P : Type 0} → (A → List ℕ → Type 0) → (P → List ℕ → Type 0) → List ℕ → Option (List ℕ) → ℕ → ℕ → Option ErrorKind → ErrorKind → Type 0
IsRefusal reads_ap reads_private bytes after old new last e =
    (e ≡ OutOfMemory) ⊎ (IsHeaderRefusal bytes after old new last e ⊎ ((e ≡ InvalidData) × HasNoParts reads_ap reads_private bytes))

-- what a refusal tells of any device, its bytes known or not: memory ran out, bytes that came are wrong, behind which one call may
-- have failed, or the bytes ended or the device failed
abbrev pub TellsRead : Option (List ℕ) → ℕ → ℕ → Option ErrorKind → ErrorKind → Type 0
TellsRead after old new last e =
    ((e ≡ OutOfMemory) × (new ≡ old)) ⊎ (((e ≡ InvalidData) × FailedAtMostOnce old new) ⊎ IsReadStop after old new last e)

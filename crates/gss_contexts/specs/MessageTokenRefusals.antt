-- Why a token was not read from a device.
use Rattle.std.specs.Prelude.{◌≡◌, ℕ, List, Option, Some, Ok, Err, ◌⊎◌}
use Rattle.std.specs.Io.KnownBytes.{Consumes}
use Rattle.std.specs.declared.io.ErrorKind.{ErrorKind}
use Rattle.std.specs.declared.io.ErrorKind.TheVariants.{UnexpectedEof}
use Rattle.gss_contexts.specs.declared.message_tokens.kind.TokenKind.{TokenKind}
use Rattle.gss_contexts.specs.declared.message_tokens.error.GssApiMessageError.{GssApiMessageError}
use Rattle.byte_streams.specs.Stops.{FailedAtMostOnce, IsReadStop}
use Rattle.gss_contexts.specs.declared.message_tokens.error.GssApiMessageError.TheVariants.{IoError, Memory}
use Rattle.gss_contexts.specs.Faults.{IsDeviceFault}
use Rattle.gss_contexts.specs.MessageTokenJudging.{id_judged, filler_judged, judged}

-- the device failed, and in all the bytes that came before nothing is wrong
pub record IsBroken (kind : TokenKind) (whole : List ℕ) (after : Option (List ℕ)) (old new : ℕ) (last : Option ErrorKind) (fault : GssApiMessageError) : Type 0 where
  pub device : IsDeviceFault old new last fault
  pub came : List ℕ
  pub taken : Consumes (Some whole) after came
  pub id : id_judged kind came ≡ Ok tt
  pub filler : filler_judged kind came ≡ Ok tt

-- memory ran out, or the device failed
abbrev pub IsExcuse : TokenKind → List ℕ → Option (List ℕ) → ℕ → ℕ → Option ErrorKind → GssApiMessageError → Type 0
IsExcuse kind whole after old new last fault = (fault ≡ Memory) ⊎ IsBroken kind whole after old new last fault

-- the bytes are no token, by this fault; or there is an excuse. `after` is what is left behind what came
abbrev pub IsRefusal : TokenKind → List ℕ → Option (List ℕ) → ℕ → ℕ → Option ErrorKind → GssApiMessageError → Type 0
IsRefusal kind whole after old new last fault =
    (judged kind UnexpectedEof whole ≡ Err fault) ⊎ IsExcuse kind whole after old new last fault

-- what a refusal tells of any device, its bytes known or not: they ended or it failed, memory ran out, or bytes that came are
-- wrong, behind which one call may have failed
abbrev pub TellsRead : TokenKind → Option (List ℕ) → ℕ → ℕ → Option ErrorKind → GssApiMessageError → Type 0
TellsRead kind after old new last (IoError cause) = IsReadStop after old new last cause
TellsRead kind after old new last Memory = new ≡ old
TellsRead kind after old new last fault = FailedAtMostOnce old new × (came : List ℕ) × (judged kind UnexpectedEof came ≡ Err fault)

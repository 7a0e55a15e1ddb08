-- Why a PAC, or a row of its table, was not read from a device. `after` is what is left behind what came.
use Rattle.std.specs.Prelude.{◌≡◌, ℕ, List, take, Option, None, Some, ⊤, Result, Err, MatchResult, ◌⊎◌}
use Rattle.std.specs.Io.KnownBytes.{Consumes}
use Rattle.std.specs.declared.io.ErrorKind.{ErrorKind}
use Rattle.microsoft_messages.specs.declared.pac.error.PacError.{PacError}
use Rattle.microsoft_messages.specs.declared.pac.error.PacError.TheVariants.{IoError, Memory}
use Rattle.byte_streams.specs.Stops.{FailedAtMostOnce, IsReadStop}
use Rattle.microsoft_messages.specs.Faults.{IsDeviceFault}
use Rattle.microsoft_messages.specs.PacReading.{info_at, pac_at}

-- the device failed, and in all the bytes that came before nothing else is wrong
pub record IsBroken (whole : List ℕ) (after : Option (List ℕ)) (old new : ℕ) (last : Option ErrorKind) (fault : PacError) : Type 0 where
  pub device : IsDeviceFault old new last fault
  pub came : List ℕ
  pub taken : Consumes (Some whole) after came
  pub fine : MatchResult (pac_at (Some device.cause) came) (λ _. ⊤) (λ e. e ≡ fault)

-- memory ran out, or the device failed
abbrev pub IsExcuse : List ℕ → Option (List ℕ) → ℕ → ℕ → Option ErrorKind → PacError → Type 0
IsExcuse whole after old new last fault = (fault ≡ Memory) ⊎ IsBroken whole after old new last fault

-- this is first wrong with the bytes as a PAC; or there is an excuse
abbrev pub IsRefusal : List ℕ → Option (List ℕ) → ℕ → ℕ → Option ErrorKind → PacError → Type 0
IsRefusal whole after old new last fault = (pac_at None whole ≡ Err fault) ⊎ IsExcuse whole after old new last fault

-- the device failed inside a row, and in what came of it nothing else is wrong
pub record IsRowBroken (bytes : List ℕ) (after : Option (List ℕ)) (old new : ℕ) (last : Option ErrorKind) (fault : PacError) : Type 0 where
  pub device : IsDeviceFault old new last fault
  pub came : List ℕ
  pub taken : Consumes (Some bytes) after came
  pub fine : info_at (Some device.cause) 0 came ≡ Err fault

-- this is first wrong with sixteen bytes as a row, or the device failed
abbrev pub IsRowRefusal : List ℕ → Option (List ℕ) → ℕ → ℕ → Option ErrorKind → PacError → Type 0
IsRowRefusal bytes after old new last fault = (info_at None 0 (take 16 bytes) ≡ Err fault) ⊎ IsRowBroken bytes after old new last fault

-- what a refusal tells of any device, its bytes known or not: they ended or it failed, or bytes that came are wrong, behind
-- which one call may have failed. `reads` says what bytes hold
abbrev pub TellsRead : {A : Type 0} → (List ℕ → Result A PacError) → Option (List ℕ) → ℕ → ℕ → Option ErrorKind → PacError → Type 0
TellsRead reads after old new last (IoError cause) = IsReadStop after old new last cause
TellsRead reads after old new last fault = FailedAtMostOnce old new × (came : List ℕ) × (reads came ≡ Err fault)

-- what a refusal to read a whole PAC says of any device: memory ran out, or what `TellsRead` says of a PAC
abbrev pub TellsPac : Option (List ℕ) → ℕ → ℕ → Option ErrorKind → PacError → Type 0
TellsPac after old new last fault = ((fault ≡ Memory) × FailedAtMostOnce old new) ⊎ TellsRead (pac_at None) after old new last fault

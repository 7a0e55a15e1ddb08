-- What writes do to the room of a sink, where it is known.
use Rattle.std.specs.Prelude.{◌≡◌, ℕ, ◌-◌, ◌<◌, ◌≤◌, Option, None, Some, ⊤, Result, MatchResult}
use Rattle.byte_streams.specs.declared.sink.SinkFault.{SinkFault}
use Rattle.byte_streams.specs.declared.exact.WholeFault.{WholeFault}
use Rattle.byte_streams.specs.declared.exact.WholeFault.TheVariants.{Full}

-- a write of some bytes takes as many as it answers, and none only where there is room for none
abbrev pub TakesRoom : Option ℕ → Option ℕ → Result ℕ SinkFault → ℕ → Type 0
TakesRoom None new r offered = ⊤
TakesRoom (Some room) new r offered =
    MatchResult r (λ n. (n ≤ room) × (new ≡ Some (room - n)) × (n ≡ 0 → 0 < offered → room ≡ 0)) (λ _. ⊥)

-- so many bytes were taken of the room
abbrev pub TakenRoom : Option ℕ → Option ℕ → ℕ → Type 0
TakenRoom None new n = ⊤
TakenRoom (Some room) new n = (n ≤ room) × (new ≡ Some (room - n))

-- the room has no bound, or isn't known
abbrev pub IsUnbounded : Option ℕ → Type 0
IsUnbounded None = ⊤
IsUnbounded (Some room) = ⊥

-- there is no room for so many bytes
abbrev pub IsPast : Option ℕ → ℕ → Type 0
IsPast None n = ⊤
IsPast (Some room) n = room < n

-- a whole write takes all where there is room for all, and else the sink is full
abbrev pub FitsRoom : {T : Type 0} → Option ℕ → Option ℕ → Result T WholeFault → ℕ → Type 0
FitsRoom None new r size = ⊤
FitsRoom (Some room) new r size =
    MatchResult r (λ _. (size ≤ room) × (new ≡ Some (room - size))) (λ fault. (fault ≡ Full) × (room < size))

-- How a device counts the calls that failed.
use Rattle.std.specs.Prelude.{◌≡◌, ℕ, ◌+◌, ◌-◌, ◌^◌, ◌<◌, min, Result, MatchResult}
use Rattle.byte_streams.specs.declared.sink.SinkFault.{SinkFault}
use Rattle.byte_streams.specs.declared.sink.SinkFault.TheVariants.{Failed, Memory}

-- one failed call more, held at u64's greatest value
abbrev pub one_more : ℕ → ℕ
one_more n = min (n + 1) (2 ^ 64 - 1)

-- a read is counted where it failed
abbrev pub CountsRead : {E : Type 0} → ℕ → ℕ → Result ℕ E → Type 0
CountsRead old new r = MatchResult r (λ _. new ≡ old) (λ _. new ≡ one_more old)

-- the count after a fault of a sink: a refused growth is no failed call
abbrev pub after_fault : ℕ → SinkFault → ℕ
after_fault old (Failed _) = one_more old
after_fault old Memory = old

-- a write is counted where it failed, and where it took nothing of some bytes
abbrev pub CountsWrite : ℕ → ℕ → Result ℕ SinkFault → ℕ → Type 0
CountsWrite old new r offered =
    MatchResult r (λ n. (n ≡ 0 → 0 < offered → new ≡ one_more old) × (0 < n → new ≡ old) × (offered ≡ 0 → new ≡ old)) (λ fault. new ≡ after_fault old fault)

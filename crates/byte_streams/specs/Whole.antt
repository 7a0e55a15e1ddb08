-- How a writer counts the failure that stopped a whole write.
use Rattle.std.specs.Prelude.{ℕ}
use Rattle.byte_streams.specs.Counting.{one_more}
use Rattle.byte_streams.specs.declared.exact.WholeFault.{WholeFault}
use Rattle.byte_streams.specs.declared.exact.WholeFault.TheVariants.{Full, Failed, Memory}

-- the count after a whole write that stopped: a refused growth is no failed call
abbrev pub after_whole_fault : ℕ → WholeFault → ℕ
after_whole_fault old Full = one_more old
after_whole_fault old (Failed _) = one_more old
after_whole_fault old Memory = old

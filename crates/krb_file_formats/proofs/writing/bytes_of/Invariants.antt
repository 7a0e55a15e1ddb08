use Rattle.std.proofs.Common.{◌≡◌, ◌++◌, ℕ, List, drop}
use Rattle.byte_streams.specs.Numbers.{be16}
use Rattle.krb_file_formats.specs.Writing.{AreWritable, records_bytes}
use Rattle.krb_file_formats.proofs.writing.bytes_of.Given as goal

-- what is left, in front of anything
abbrev pub invariant-loop-one : goal.invariant-loop-one
invariant-loop-one l = record {
  put : (more : List ℕ) → l.bytes.items ++ records_bytes (drop l.one-index l.records) more ≡ be16 1282 ++ records_bytes l.records more;
  fit : AreWritable (drop l.one-index l.records) → AreWritable l.records;
  back : AreWritable l.records → AreWritable (drop l.one-index l.records);
}

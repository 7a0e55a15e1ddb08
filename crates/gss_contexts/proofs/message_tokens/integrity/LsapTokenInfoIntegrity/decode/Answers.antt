use Rattle.std.proofs.Common.{subst, refl, inl, arith}
use Rattle.std.proofs.lemmas.List.{take_all}
use Rattle.std.specs.Io.KnownBytes.{Consumes}
use Rattle.gss_contexts.proofs.IntegrityLaws.{given-only, short-only, short-record}
use Rattle.gss_contexts.proofs.message_tokens.integrity.LsapTokenInfoIntegrity.decode.Goals as goal

pub returns-clause-found : goal.returns-clause-found
returns-clause-found g c = (
  c.read_full.new.buffer,
  c.of_bytes.ensures.laid,
  subst (Consumes (g.R.Source.left c.args.reader.now) (g.R.Source.left c.read_full.new.reader))
      (take_all c.in-Ok.count c.read_full.new.buffer (omega arith)) c.in-Ok.ensures.bytes,
)

pub returns-clause-only : goal.returns-clause-only
returns-clause-only g c =
    given-only (g.R.Source.left c.args.reader.now) (g.R.Source.left c.read_full.new.reader) c.read_full.new.buffer _
    (subst (Consumes (g.R.Source.left c.args.reader.now) (g.R.Source.left c.read_full.new.reader))
    (take_all c.in-Ok.count c.read_full.new.buffer (omega arith)) c.in-Ok.ensures.bytes)
    (omega arith) c.of_bytes.ensures.read

pub returns-then-count-lt-RECORD_LEN-clause-only : goal.returns-then-count-lt-RECORD_LEN-clause-only
returns-then-count-lt-RECORD_LEN-clause-only g c =
    short-only (g.R.Source.left c.args.reader.now) (g.R.Source.left c.read_full.new.reader) c.in-Ok.count c.read_full.new.buffer _
    c.in-Ok.ensures.bytes (c.in-Ok.ensures.end (omega arith)) c.if-count-lt-RECORD_LEN.true

pub returns-then-count-lt-RECORD_LEN-clause-refused : goal.returns-then-count-lt-RECORD_LEN-clause-refused
returns-then-count-lt-RECORD_LEN-clause-refused g c =
    inl (
      refl,
      c.in-Ok.ensures.count,
      c.in-Ok.ensures.end (omega arith),
      short-record (g.R.Source.left c.args.reader.now) (g.R.Source.left c.read_full.new.reader) c.in-Ok.count c.read_full.new.buffer
          c.in-Ok.ensures.bytes (c.in-Ok.ensures.end (omega arith)) c.if-count-lt-RECORD_LEN.true,
    )

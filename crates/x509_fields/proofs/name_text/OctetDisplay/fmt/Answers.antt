use Rattle.std.proofs.Common.{true, arith}
use Rattle.std.proofs.Output.{has_written_of_eq}
use Rattle.std.proofs.lemmas.Fmt.{hex_byte}
use Rattle.x509_fields.proofs.name_text.OctetDisplay.fmt.Goals as goal

pub returns-clause-writes : goal.returns-clause-writes
returns-clause-writes g c = λ plain ok.
    let written = rw (c.laid_out.ensures, c.in_radix.ensures) at c.write.ensures.writes in
    has_written_of_eq _ _ _ _ _ (hex_byte true c.args.self.now.0 (omega arith)) (written plain ok)

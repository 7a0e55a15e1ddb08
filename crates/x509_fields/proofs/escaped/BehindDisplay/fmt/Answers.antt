use Rattle.std.proofs.Common.{sym}
use Rattle.std.proofs.Output.{has_written_of_eq}
use Rattle.x509_fields.proofs.TextLemmas.{behind_of, cut_last}
use Rattle.x509_fields.proofs.escaped.BehindDisplay.fmt.Goals as goal

pub returns-clause-writes : goal.returns-clause-writes
returns-clause-writes g c = λ plain ok.
    let octets = c.args.self.now.0.now in
    has_written_of_eq _ _ _ _ _ (sym (behind_of octets _ _ (cut_last octets 0 c.in-len1-up.len_at_least))) (c.write.ensures.writes plain ok)

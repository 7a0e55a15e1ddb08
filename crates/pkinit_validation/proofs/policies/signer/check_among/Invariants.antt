use Rattle.std.proofs.Common.{drop}
use Rattle.pkinit_validation.specs.Expected.{expected_of}
use Rattle.pkinit_validation.proofs.PolicySignerLemmas.{ComesTo}
use Rattle.pkinit_validation.proofs.policies.signer.check_among.Given as goal

abbrev pub invariant-loop-raw : goal.invariant-loop-raw
invariant-loop-raw g l = ComesTo (g.K.KeyFunctions.functions l.keys) (expected_of l.expected) l.content l.certificates (drop l.raw-index l.certificates)

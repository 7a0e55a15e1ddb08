use Rattle.std.proofs.Common.{ℕ, List, sym, subst}
use Rattle.pkinit_validation.proofs.TrustLemmas.{none_read, was_read}
use Rattle.x509_algorithms.specs.contracts.algorithm_identifier.AlgorithmIdentifierSpelled.TheImpl as algorithm_impl
use Rattle.pkinit_validation.proofs.policies.signer.algorithm_in.Goals as goal

pub returns-in-Ok : goal.returns-in-Ok
returns-in-Ok c =
    subst (λ (bytes : List ℕ). (n : ℕ) × algorithm_impl.ghosts.spells c.in-Ok.algorithm bytes n) c.as_bytes.ensures
    (was_read algorithm_impl.ghosts.spells c.as_bytes.result.now c.in-Ok.algorithm c.in-Ok.ensures.value)

pub returns-else-eq : goal.returns-else-eq
returns-else-eq c = λ algorithm is.
    none_read algorithm_impl.ghosts.spells c.as_bytes.result.now c.in-Err.fault (λ e. let same = rw e at c.eq.ensures in absurd (cc (same, c.if-eq.false)))
    c.in-Err.ensures.value algorithm is.0 (subst (λ (bytes : List ℕ). algorithm_impl.ghosts.spells algorithm bytes is.0) (sym c.as_bytes.ensures) is.1)

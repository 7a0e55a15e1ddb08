-- An algorithm that was made of its parts.
use Rattle.std.specs.Prelude.{◌≡◌, ℕ, List}
use Rattle.x509_algorithms.specs.declared.algorithm_kinds.AlgorithmIdentifierParameters.{AlgorithmIdentifierParameters}
use Rattle.x509_algorithms.specs.declared.algorithm_identifier.AlgorithmIdentifier.{AlgorithmIdentifier}

-- it has this identifier, and these parameters
abbrev pub IsMade : List ℕ → AlgorithmIdentifierParameters → AlgorithmIdentifier → Type 0
IsMade arcs parameters made = (made.algorithm.0 ≡ arcs) × (made.parameters ≡ parameters)

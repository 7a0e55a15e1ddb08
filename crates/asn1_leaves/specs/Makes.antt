-- What the makers and the decoders of leaf types answer.
use Rattle.std.specs.Prelude.{◌≡◌, ◌≢◌, ℕ, List, Option, MatchOption, Result, MatchResult, ◌⊎◌}
use Rattle.asn1_leaves.specs.declared.fault.LeafFault.{LeafFault}
use Rattle.asn1_leaves.specs.declared.fault.LeafFault.TheVariants.{Memory}

-- the value if the condition holds, and the fault if it doesn't; or memory ran out
abbrev pub Makes : {T : Type 0} → Type 0 → LeafFault → T → Result T LeafFault → Type 0
Makes condition fault value answer =
    MatchResult answer (λ made. condition × (made ≡ value)) (λ e. (e ≡ Memory) ⊎ ((e ≡ fault) × ¬ condition))

-- the value whose content the octets are, or none where they are the content of no value that is valid
abbrev pub Decodes : {T : Type 0} → (T → Type 0) → (T → List ℕ) → List ℕ → Option T → Type 0
Decodes {T} IsValid content_of octets answer =
    MatchOption answer ((v : T) → IsValid v → content_of v ≢ octets) (λ v. IsValid v × (content_of v ≡ octets))

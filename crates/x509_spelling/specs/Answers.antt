-- What reading a spelling answers.
use Rattle.std.specs.Prelude.{◌≡◌, ◌⊎◌, ℕ, Result, MatchResult}
use Rattle.asn1_der.specs.declared.error.Asn1DerError.{Asn1DerError}
use Rattle.asn1_der.specs.declared.error.Asn1DerError.TheVariants as der_fault
use Rattle.x509_spelling.specs.declared.counted.Counted.{Counted}
use Rattle.x509_spelling.specs.declared.fault.X509Fault.{X509Fault}
use Rattle.x509_spelling.specs.declared.fault.X509Fault.TheVariants.{Der, Leaf, Meaning, Memory}

-- The number of a fault of X.509, from 1 to 4.
abbrev pub fault_number : X509Fault → ℕ
fault_number Der = 1
fault_number Leaf = 2
fault_number Meaning = 3
fault_number Memory = 4

-- a fault of the DER layer as one of this
abbrev pub fault_of : Asn1DerError → X509Fault
fault_of der_fault.Memory = Memory
fault_of (der_fault.Message rule) = Leaf
fault_of fault = Der

-- memory ran out, or no value with any count has the property
abbrev pub IsRefusal : {T : Type 0} → (T → ℕ → Type 0) → X509Fault → Type 0
IsRefusal {T} P fault = (fault ≡ Memory) ⊎ ((value : T) (n : ℕ) → P value n → ⊥)

-- a value and a count with the property, or a refusal
abbrev pub Tells : {T : Type 0} → (T → ℕ → Type 0) → Result (Counted T) X509Fault → Type 0
Tells P result = MatchResult result (λ told. P told.value told.count) (IsRefusal P)

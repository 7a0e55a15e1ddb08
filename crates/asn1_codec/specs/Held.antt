-- Octets of an element that were taken from a source, and what a fault says of those that come next.
use Rattle.std.specs.Prelude.{◌≡◌, ℕ, ◌+◌, ◌<◌, ◌≤◌, ◌^◌, List, [], ◌∷◌, ◌++◌, length, take, Option, IfSome}
use Rattle.std.specs.Io.KnownBytes.{Consumes, IsAtEnd}
use Rattle.asn1_der.specs.Length.{length_octets}
use Rattle.asn1_der.specs.declared.error.Asn1DerError.{Asn1DerError}
use Rattle.asn1_der.specs.declared.error.Asn1DerError.TheVariants.{TruncatedData, InvalidData}
use Rattle.asn1_codec.specs.Lengths.{IsFollowing}
use Rattle.asn1_codec.specs.Named.{IsAnElement, EndsInside, NeverBegins}

-- octets were taken behind those before, until they were so many; they are fewer only where the source ended
pub record IsFilled (size : ℕ) (old new : Option (List ℕ)) (before after : List ℕ) : Type 0 where
  pub came : List ℕ
  pub grown : after ≡ before ++ came
  pub took : Consumes old new came
  pub within : length after ≤ size
  pub end : length after < size → IsAtEnd new

-- the second octet, which is the first of the length octets, says how many identifier and length octets there are
abbrev pub HasHeader : List ℕ → ℕ → Type 0
HasHeader held size =
    (first second : ℕ) × (rest : List ℕ) × (more : ℕ) × (held ≡ first ∷ second ∷ rest) × (size ≡ 2 + more) × IsFollowing second more

-- the octets are the identifier and length octets of an element of so many octets
abbrev pub IsHeaderOf : List ℕ → ℕ → Type 0
IsHeaderOf header size = (first count : ℕ) × (count < 2 ^ 64) × (header ≡ first ∷ length_octets count) × (size ≡ length header + count)

-- why no whole element is read: the octets end inside one, or none begins them, whatever follows
abbrev pub TellsCut : List ℕ → Asn1DerError → Type 0
TellsCut front TruncatedData = EndsInside front
TellsCut front InvalidData = (EndsInside front → ⊥) × NeverBegins IsAnElement front
TellsCut front fault = ⊥

-- the same of the octets that are held and what may follow them up to the limit, which is nothing if they are fewer than `size`
abbrev pub TellsHeld : ℕ → ℕ → List ℕ → Asn1DerError → Type 0
TellsHeld limit size held fault =
    (tail : List ℕ) → length (held ++ tail) ≤ limit → (length held < size → tail ≡ []) → TellsCut (held ++ tail) fault

-- the same of what a source has left, up to the limit, if that is known
abbrev pub TellsLeft : ℕ → Option (List ℕ) → Asn1DerError → Type 0
TellsLeft limit left fault = IfSome left (λ input. TellsCut (take limit input) fault)

-- What the fault of an input says of which nothing is read.
use Rattle.std.specs.Prelude.{◌≡◌, ◌⊎◌, ⊤, ℕ, ◌<◌, ◌≤◌, ◌^◌, Bool, true, false, List, ◌++◌, length}
use Rattle.asn1_der.specs.Length.{element}
use Rattle.asn1_der.specs.Tree.{Tree, primitive, constructed, absent, der, ders, IsWhole}
use Rattle.asn1_der.specs.declared.error.Asn1DerError.{Asn1DerError}
use Rattle.asn1_der.specs.declared.error.Asn1DerError.TheVariants.{TruncatedData, InvalidData, Memory, Other}
use Rattle.asn1_codec.specs.Reading.{IsReadBy}

-- the bytes are one element, with any identifier octet
abbrev pub IsAnElement : List ℕ → Type 0
IsAnElement bytes = (first : ℕ) × (content : List ℕ) × (bytes ≡ element first content)

-- some further octets complete the input to one element, whose content a machine of 64 bits can hold
abbrev pub EndsInside : List ℕ → Type 0
EndsInside input =
    (more : List ℕ) × (first : ℕ) × (content : List ℕ) × (1 ≤ length more) × (length content < 2 ^ 64) × (input ++ more ≡ element first content)

-- memory ran out, or the device failed
abbrev pub is_excuse : Asn1DerError → Bool
is_excuse Memory = true
is_excuse (Other kind) = true
is_excuse fault = false

abbrev pub is_truncated : Asn1DerError → Bool
is_truncated TruncatedData = true
is_truncated fault = false

-- the fault of an input that doesn't end inside an element
abbrev pub as_final : Asn1DerError → Asn1DerError
as_final TruncatedData = InvalidData
as_final fault = fault

-- An excuse stays. In place of another fault the input's end counts, if it is inside an element.
abbrev pub IsNamed : Asn1DerError → List ℕ → Asn1DerError → Type 0
IsNamed fault input told =
    ((is_excuse fault ≡ true) × (told ≡ fault))
    ⊎ ((is_excuse fault ≡ false) × (((told ≡ TruncatedData) × EndsInside input) ⊎ ((told ≡ as_final fault) × (EndsInside input → ⊥))))

-- no such bytes begin the input, whatever follows it
abbrev pub NeverBegins : (List ℕ → Type 0) → List ℕ → Type 0
NeverBegins P input = (more bytes rest : List ℕ) → length bytes < 2 ^ 64 → P bytes → input ++ more ≡ bytes ++ rest → ⊥

-- nothing that follows the input makes such bytes of it
abbrev pub NeverIs : (List ℕ → Type 0) → List ℕ → Type 0
NeverIs P input = (more : List ℕ) → length (input ++ more) < 2 ^ 64 → P (input ++ more) → ⊥

-- `TruncatedData` says that the input ends inside an element. Another fault says that it doesn't, and that no bytes that are read begin it,
-- whatever follows. Memory and the device are excuses.
abbrev pub TellsEnd : {T : Type 0} → (T → List ℕ → Type 0) → List ℕ → Asn1DerError → Type 0
TellsEnd reads input TruncatedData = EndsInside input
TellsEnd reads input Memory = ⊤
TellsEnd reads input (Other kind) = ⊤
TellsEnd reads input fault = (EndsInside input → ⊥) × NeverBegins (IsReadBy reads) input

-- The same of a whole input: after another fault it is read with nothing that follows.
abbrev pub TellsWholeEnd : {T : Type 0} → (T → List ℕ → Type 0) → List ℕ → Asn1DerError → Type 0
TellsWholeEnd reads input TruncatedData = EndsInside input
TellsWholeEnd reads input Memory = ⊤
TellsWholeEnd reads input (Other kind) = ⊤
TellsWholeEnd reads input fault = (EndsInside input → ⊥) × NeverIs (IsReadBy reads) input

-- a value's encoding is one element
pub element_of : (tree : Tree) (bytes : List ℕ) → IsWhole tree → bytes ≡ der tree → IsAnElement bytes
element_of (primitive first content) bytes whole is = (first, content, is)
element_of (constructed first parts) bytes whole is = (first, ders parts, is)
element_of absent bytes whole is = absurd whole

-- What reading from the front of a text tells of a value whose encoding a suite pads.
use Rattle.std.proofs.Common.{◌≡◌, ◌⊎◌, ◌+◌, ◌-◌, ◌≤◌, ◌∙◌, ℕ, List, ◌++◌, length, take, drop, Some, ap, arith, inl, inr, refl, sym}
use Rattle.std.proofs.lemmas.List.{drop_at, length-append, take_at}
use Rattle.asn1_der.specs.declared.error.Asn1DerError.{Asn1DerError}
use Rattle.asn1_der.specs.declared.error.Asn1DerError.TheVariants.{InvalidData, InvalidSink, Memory, Message, Other, TruncatedData, UnsupportedType, UnsupportedValue}
use Rattle.asn1_der.specs.Tree.{Tree, Writes}
use Rattle.asn1_der.proofs.Spelling.{IsInjectiveAs, one_spelling_as}
use Rattle.asn1_codec.specs.Cuts.{MissesNext}
use Rattle.asn1_codec.specs.Reading.{IsExcuse, faults_after}
use Rattle.krb_crypto.specs.Sealing.{cipher_padded}
use Rattle.krb_crypto.specs.declared.suite.CipherSuite.{CipherSuite}
use Rattle.krb_crypto.proofs.SealingLemmas.{padded_front}
use Rattle.krb_tickets.specs.Padded.{IsPaddedBy}

-- a text in two parts, of which the second was left
module _ (text bytes rest front padding : List ℕ) (took : text ≡ bytes ++ rest) (is_front : front ≡ take (length text - length rest) text) (is_padding : padding ≡ drop (length text - length rest) text) where
  cut : length text - length rest ≡ length bytes
  cut = omega (arith, ap length took, length-append bytes rest)

  front_is : front ≡ bytes
  front_is = is_front ∙ ap (λ (n : ℕ). take n text) cut ∙ ap (take (length bytes)) took ∙ take_at bytes rest (length bytes) refl

  padding_is : padding ≡ rest
  padding_is = is_padding ∙ ap (λ (n : ℕ). drop n text) cut ∙ ap (drop (length bytes)) took ∙ drop_at bytes rest (length bytes) refl

  both_are : front ++ padding ≡ text
  both_are = ap (λ (s : List ℕ). s ++ padding) front_is ∙ ap (λ (s : List ℕ). bytes ++ s) padding_is ∙ sym took

  -- it is the padding: the value's encoding, once padded, is the text
  pub value_padded : {T : Type 0} (tree : T → Tree) (suite : CipherSuite) (value : T) → Writes {T = T} tree value bytes → front ++ padding ≡ cipher_padded suite front → IsPaddedBy {T = T} tree suite text value
  value_padded tree suite value writes whole = (bytes, writes, ap (cipher_padded suite) (sym front_is) ∙ sym whole ∙ both_are)

  -- it isn't: no value's padded encoding is the text
  pub none_padded : {T : Type 0} (Same : T → T → Type 0) (tree : T → Tree) → IsInjectiveAs {T = T} Same tree → (suite : CipherSuite) (value : T) → Writes {T = T} tree value bytes → (front ++ padding ≡ cipher_padded suite front → ⊥)
      → (other : T) → IsPaddedBy {T = T} tree suite text other → ⊥
  none_padded {T} Same tree injective suite value writes differs other x =
      let behind = padded_front suite x.0 in
      let same = one_spelling_as {T = T} Same tree injective value other bytes x.0 rest behind.0 writes x.1 (sym took ∙ sym x.2 ∙ behind.1) in
      differs (both_are ∙ sym x.2 ∙ ap (cipher_padded suite) (sym same.1 ∙ sym front_is))

-- where no value begins the text, no padded value is the text
missing_padded : {T : Type 0} (tree : T → Tree) (suite : CipherSuite) (text : List ℕ) → ((bytes rest : List ℕ) (value : T) → Writes {T = T} tree value bytes → text ≡ bytes ++ rest → ⊥)
    → (other : T) → IsPaddedBy {T = T} tree suite text other → ⊥
missing_padded tree suite text missing other x =
    let behind = padded_front suite x.0 in
    missing x.0 behind.0 other x.1 (sym x.2 ∙ behind.1)

-- no device fails where no failure was counted
want_of_memory : (fault : Asn1DerError) → IsExcuse fault → 0 ≡ faults_after fault 0 → fault ≡ Memory
want_of_memory Memory excuse counted = refl
want_of_memory (Other kind) excuse counted = absurd (omega (arith, counted))
want_of_memory TruncatedData excuse counted = absurd excuse
want_of_memory InvalidData excuse counted = absurd excuse
want_of_memory UnsupportedValue excuse counted = absurd excuse
want_of_memory UnsupportedType excuse counted = absurd excuse
want_of_memory InvalidSink excuse counted = absurd excuse
want_of_memory (Message rule) excuse counted = absurd excuse

pub refused_padded : {T : Type 0} (tree : T → Tree) (suite : CipherSuite) (text : List ℕ) (fault : Asn1DerError) → 0 ≡ faults_after fault 0 → MissesNext (Writes {T = T} tree) (length text) (Some text) fault
    → (fault ≡ Memory) ⊎ ((other : T) → IsPaddedBy {T = T} tree suite text other → ⊥)
refused_padded tree suite text fault counted (inl excuse) = inl (want_of_memory fault excuse counted)
refused_padded tree suite text fault counted (inr missing) =
    inr (missing_padded tree suite text (λ bytes rest value writes is.
    let fits : length bytes ≤ length text = omega (arith, ap length is, length-append bytes rest) in
    missing bytes rest (value, writes) (ap Some is) fits))

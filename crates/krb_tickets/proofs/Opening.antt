-- What decrypting and reading tell of a sealed part.
use Rattle.std.proofs.Common.{◌≡◌, ◌⊎◌, ◌∙◌, ℕ, List, inl, inr, refl, subst, sym}
use Rattle.asn1_der.specs.Tree.{Tree}
use Rattle.asn1_der.specs.Seen.{Seen, Alike}
use Rattle.asn1_der.proofs.Spelling.{IsInjectiveAs, one_spelling_as}
use Rattle.krb_crypto.specs.declared.suite.CipherSuite.{CipherSuite}
use Rattle.krb_crypto.specs.Sealing.{IsSealedBy, cipher_padded}
use Rattle.krb_crypto.specs.Suites.{cipher_number}
use Rattle.krb_crypto.proofs.SealingLemmas.{by_suite, padded_front, sealed_without_padding}
use Rattle.asn1_der.specs.declared.error.Asn1DerError.{Asn1DerError}
use Rattle.asn1_der.specs.declared.error.Asn1DerError.TheVariants.{Memory}
use Rattle.krb_tickets.specs.Padded.{IsPaddedBy}
use Rattle.krb_tickets.specs.Opens.{Opens}

-- the suite sealed this text to the bytes, and no other text but for its padding
abbrev pub IsDecrypted : CipherSuite → List ℕ → ℕ → List ℕ → List ℕ → Type 0
IsDecrypted suite key usage plain bytes =
    (conf : List ℕ) × IsSealedBy suite key usage conf plain bytes
    × ((c q : List ℕ) → IsSealedBy suite key usage c q bytes → (c ≡ conf) × (cipher_padded suite q ≡ plain))

-- where nothing is sealed, no value is
pub nothing_opens : {T A : Type 0} (tree : T → Tree) (suite : CipherSuite) (key : List ℕ) (usage : ℕ) (bytes : List ℕ)
    → A ⊎ ((c p : List ℕ) → IsSealedBy suite key usage c p bytes → ⊥)
    → A ⊎ ((other : T) → Opens {T = T} tree (cipher_number suite) key usage bytes other → ⊥)
nothing_opens tree suite key usage bytes (inl wanting) = inl wanting
nothing_opens tree suite key usage bytes (inr none) =
    inr (λ other o. none o.conf o.plain (by_suite suite key usage o.conf o.plain bytes o.sealed))

-- a value is sealed here where its padded encoding is the text that was decrypted, and nowhere else
opens_padded : {T : Type 0} (tree : T → Tree) (suite : CipherSuite) (key : List ℕ) (usage : ℕ) (plain input bytes : List ℕ) → input ≡ plain
    → IsDecrypted suite key usage plain bytes → (other : T) → Opens {T = T} tree (cipher_number suite) key usage bytes other → IsPaddedBy {T = T} tree suite input other
opens_padded tree suite key usage plain input bytes same x other o =
    (o.plain, o.writes, (x.2 o.conf o.plain (by_suite suite key usage o.conf o.plain bytes o.sealed)).1 ∙ sym same)

padded_opens : {T : Type 0} (tree : T → Tree) (suite : CipherSuite) (key : List ℕ) (usage : ℕ) (plain input bytes : List ℕ) → input ≡ plain
    → IsDecrypted suite key usage plain bytes → (value : T) → IsPaddedBy {T = T} tree suite input value → Opens {T = T} tree (cipher_number suite) key usage bytes value
padded_opens tree suite key usage plain input bytes same x value padded =
    let sealed = subst (λ (p : List ℕ). IsSealedBy suite key usage x.0 p bytes) (sym (padded.2 ∙ same)) x.1 in
    record { conf = x.0; plain = padded.0; writes = padded.1; sealed = (suite, refl, sealed_without_padding suite key usage x.0 padded.0 bytes sealed) }

-- one value's padded encoding is a text
sole_padded : {T : Type 0} (seen : Seen T) (tree : T → Tree) → IsInjectiveAs {T = T} (Alike seen) tree → (suite : CipherSuite) (text : List ℕ) (v w : T) → IsPaddedBy {T = T} tree suite text v → IsPaddedBy {T = T} tree suite text w → Alike seen v w
sole_padded {T} seen tree injective suite text v w x y =
    let first = padded_front suite x.0 in
    let second = padded_front suite y.0 in
    (one_spelling_as {T = T} (Alike seen) tree injective v w x.0 y.0 first.0 second.0 x.1 y.1 (sym first.1 ∙ x.2 ∙ sym y.2 ∙ second.1)).0

-- the value that was read from the text is the one that is sealed here
pub opens_value : {T : Type 0} (seen : Seen T) (tree : T → Tree) → IsInjectiveAs {T = T} (Alike seen) tree → (suite : CipherSuite) (key : List ℕ) (usage : ℕ) (plain input bytes : List ℕ) (value : T)
    → input ≡ plain → IsDecrypted suite key usage plain bytes → IsPaddedBy {T = T} tree suite input value
    → Opens {T = T} tree (cipher_number suite) key usage bytes value
    × ((other : T) → Opens {T = T} tree (cipher_number suite) key usage bytes other → Alike seen other value)
opens_value {T} seen tree injective suite key usage plain input bytes value same x padded = (
  padded_opens {T = T} tree suite key usage plain input bytes same x value padded,
  λ other o. sole_padded {T = T} seen tree injective suite input other value (opens_padded {T = T} tree suite key usage plain input bytes same x other o) padded,
)

-- where no value's padded encoding is the text, none is sealed here
pub nothing_reads : {T : Type 0} (tree : T → Tree) (suite : CipherSuite) (key : List ℕ) (usage : ℕ) (plain input bytes : List ℕ) (fault : Asn1DerError)
    → input ≡ plain → IsDecrypted suite key usage plain bytes → (fault ≡ Memory) ⊎ ((value : T) → IsPaddedBy {T = T} tree suite input value → ⊥)
    → (fault ≡ Memory) ⊎ ((other : T) → Opens {T = T} tree (cipher_number suite) key usage bytes other → ⊥)
nothing_reads tree suite key usage plain input bytes fault same x (inl wanting) = inl wanting
nothing_reads {T} tree suite key usage plain input bytes fault same x (inr none) =
    inr (λ other o. none other (opens_padded {T = T} tree suite key usage plain input bytes same x other o))

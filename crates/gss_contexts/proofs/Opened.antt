-- What is read from a sealed text.
use Rattle.std.proofs.Common.{◌≡◌, ◌⊎◌, ℕ, ◌+◌, ◌-◌, List, ◌++◌, length, take, drop, true, false, bytes_eq, refl, ap, sym, subst, ◌∙◌, inl, inr, arith}
use Rattle.std.proofs.lemmas.Bool.{false≢true}
use Rattle.std.proofs.lemmas.List.{length-append, length-drop, take_all}
use Rattle.std.proofs.lemmas.Slice.Eq.{bytes_eq-Decides}
use Rattle.byte_streams.specs.Numbers.{be16_at}
use Rattle.block_ciphers.specs.declared.error.KerberosCryptoError.{KerberosCryptoError}
use Rattle.block_ciphers.specs.declared.error.KerberosCryptoError.TheVariants as crypto
use Rattle.krb_crypto.specs.Sealing.{IsSealedBy, cipher_padded}
use Rattle.krb_crypto.specs.declared.suite.CipherSuite.{CipherSuite}
use Rattle.krb_crypto.specs.declared.suite.CipherSuite.TheVariants.{Aes128CtsHmacSha196, Aes256CtsHmacSha196, Des3CbcSha1Kd, Aes128CtsHmacSha256128, Aes256CtsHmacSha384192}
use Rattle.gss_contexts.specs.Contexts.{is_newer}
use Rattle.gss_contexts.specs.Judging.{IsCarried, IsTextOf, IsUnopened, IsUnread, refusal_of}
use Rattle.gss_contexts.specs.Tokens.{Carries, IsSealedText, IsSummedText, header_without_counts, header_without_rrc, rotated_right, seal_usage, sum_of}
use Rattle.gss_contexts.specs.declared.refusal.TokenRefusal.{TokenRefusal}
use Rattle.gss_contexts.specs.declared.refusal.TokenRefusal.TheVariants.{Memory, OtherHeader}
use Rattle.gss_contexts.specs.declared.sender.Sender.{Sender}
use Rattle.gss_contexts.specs.declared.side.Protection.{Protection}
use Rattle.gss_contexts.specs.declared.side.Protection.TheVariants.{Sealed}
use Rattle.gss_contexts.proofs.Ends.{same_back, same_front}
use Rattle.gss_contexts.proofs.Rotated.{one_text}

-- the newer suites don't pad
pub padded_same : (suite : CipherSuite) → is_newer suite ≡ true → (text : List ℕ) → cipher_padded suite text ≡ text
padded_same Aes128CtsHmacSha196 newer text = refl
padded_same Aes256CtsHmacSha196 newer text = refl
padded_same Des3CbcSha1Kd newer text = absurd (false≢true newer)
padded_same Aes128CtsHmacSha256128 newer text = refl
padded_same Aes256CtsHmacSha384192 newer text = refl

module _ (s : Sender) (newer : is_newer s.key.suite ≡ true) (token text : List ℕ) where
  -- this text is sealed, and no other
  abbrev Opens : ℕ → List ℕ → Type 0
  Opens usage plain = (d : List ℕ) × IsSealedBy s.key.suite s.key.bytes usage d plain text
      × ((c q : List ℕ) → IsSealedBy s.key.suite s.key.bytes usage c q text → (c ≡ d) × (cipher_padded s.key.suite q ≡ plain))

  -- a message stands before filler and header
  abbrev Ends : List ℕ → List ℕ → Type 0
  Ends plain m = (f : List ℕ) × (length f ≡ be16_at 4 token) × (plain ≡ m ++ (f ++ header_without_rrc token))

  all_of : (plain : List ℕ) → Opens (seal_usage s.side) plain → (d m : List ℕ) → IsSealedText s (be16_at 4 token) d m token text → Ends plain m
  all_of plain opened d m x = (
    x.filler,
    x.counted,
    sym ((opened.2 d (m ++ (x.filler ++ header_without_rrc token)) x.sealed).1) ∙ padded_same s.key.suite newer (m ++ (x.filler ++ header_without_rrc token)),
  )

  pub sealed_is : (usage : ℕ) (plain m : List ℕ) → usage ≡ seal_usage s.side → Opens usage plain → Ends plain m
      → (d : List ℕ) × IsSealedText s (be16_at 4 token) d m token text
  sealed_is usage plain m used opened ends = (
    opened.0,
    record {
      filler = ends.0;
      counted = ends.1;
      sealed = subst (λ (p : List ℕ). IsSealedBy s.key.suite s.key.bytes (seal_usage s.side) opened.0 p text) ends.2
          (subst (λ (n : ℕ). IsSealedBy s.key.suite s.key.bytes n opened.0 plain text) used opened.1);
    },
  )

  pub sealed_only : (usage : ℕ) (plain m : List ℕ) → usage ≡ seal_usage s.side → Opens usage plain → Ends plain m
      → (d n : List ℕ) → IsSealedText s (be16_at 4 token) d n token text → n ≡ m
  sealed_only usage plain m used opened ends d n x =
      let other = all_of plain (subst (λ u. Opens u plain) used opened) d n x in
      same_front n (other.0 ++ header_without_rrc token) m (ends.0 ++ header_without_rrc token) (sym other.2 ∙ ends.2)
      (length-append other.0 (header_without_rrc token) ∙ ap (λ k. k + length (header_without_rrc token)) (other.1 ∙ sym ends.1) ∙ sym (length-append ends.0 (header_without_rrc token)))

  pub sealed_other : (usage : ℕ) (plain : List ℕ) → usage ≡ seal_usage s.side → Opens usage plain
      → ((m f : List ℕ) → length f ≡ be16_at 4 token → plain ≡ m ++ (f ++ header_without_rrc token) → ⊥) → IsUnread s Sealed token text OtherHeader
  sealed_other usage plain used opened none =
      let usual = subst (λ u. Opens u plain) used opened in (
        (usual.0, plain, usual.1),
        λ d m x. let other = all_of plain usual d m x in none m other.0 other.1 other.2,
      )

-- nothing is sealed, or memory ran out
pub sealed_none : (s : Sender) (token text : List ℕ) (usage : ℕ) (fault : KerberosCryptoError) → usage ≡ seal_usage s.side
    → (fault ≡ crypto.Memory) ⊎ ((d p : List ℕ) → IsSealedBy s.key.suite s.key.bytes usage d p text → ⊥)
    → (refusal_of fault ≡ Memory) ⊎ IsUnread s Sealed token text (refusal_of fault)
sealed_none s token text usage fault used (inl wanting) = inl (ap refusal_of wanting)
sealed_none s token text usage crypto.Memory used (inr none) = inl refl
sealed_none s token text usage fault used (inr none) =
    inr (subst (λ u. (d p : List ℕ) → IsSealedBy s.key.suite s.key.bytes u d p text → ⊥) used none)

-- the checksum behind a message differs
pub summed_differs : (s : Sender) (token text front back header sum items : List ℕ) (ec usage : ℕ) → front ++ back ≡ text → length back ≡ ec
    → usage ≡ seal_usage s.side → header ≡ header_without_counts token → items ≡ sum_of s.key usage (front ++ header) → sum ≡ items → bytes_eq back sum ≡ false
    → (m : List ℕ) → IsSummedText s ec m token text → ⊥
summed_differs s token text front back header sum items ec usage is counted used is_header is_sum same_sum differs m x =
    let both = is ∙ x.carried in
    let size = counted ∙ sym x.counted in
    let other : x.sum ≡ items =
    x.is_sum ∙ ap (λ (l : List ℕ). sum_of s.key (seal_usage s.side) (l ++ header_without_counts token)) (sym (same_front front back m x.sum both size))
    ∙ ap (λ n. sum_of s.key n (front ++ header_without_counts token)) (sym used) ∙ ap (λ (h : List ℕ). sum_of s.key usage (front ++ h)) (sym is_header) ∙ sym is_sum in
    false≢true (sym differs ∙ (bytes_eq-Decides back sum).1 (same_back front back m x.sum both size ∙ other ∙ sym same_sum))

-- the text that was rotated back
module _ (s : Sender) (p : Protection) (token items text : List ℕ) (count : ℕ) (same : text ≡ items) (is_count : count ≡ be16_at 6 token)
    (turned : rotated_right count items ≡ take (length token - 16) (drop 16 token)) where
  is_text : IsTextOf token text
  is_text = ap (rotated_right (be16_at 6 token)) same ∙ ap (λ n. rotated_right n items) (sym is_count) ∙ turned
      ∙ take_all (length token - 16) (drop 16 token) (omega (arith, length-drop 16 token))

  pub carried_is : (m : List ℕ) → (d : List ℕ) × Carries s p (be16_at 4 token) d m token text → (d : List ℕ) × IsCarried s p d m token
  carried_is m x = (x.0, record { text = text; is_text = is_text; carries = x.1 })

  pub carried_only : (m : List ℕ) → ((d n : List ℕ) → Carries s p (be16_at 4 token) d n token text → n ≡ m) → (d n : List ℕ) → IsCarried s p d n token → n ≡ m
  carried_only m only d n x =
      let one = one_text (be16_at 6 token) (drop 16 token) x.text text x.is_text is_text in
      only d n (subst (λ (t : List ℕ). Carries s p (be16_at 4 token) d n token t) one x.carries)

  pub carried_refused : (e : TokenRefusal) → (e ≡ Memory) ⊎ IsUnread s p token text e → (e ≡ Memory) ⊎ IsUnopened s p token e
  carried_refused e (inl wanting) = inl wanting
  carried_refused e (inr unread) = inr (text, is_text, unread)

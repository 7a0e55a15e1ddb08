-- What is sealed, and what opens it, by any profile.
use Rattle.std.proofs.Common.{◌≡◌, ◌≢◌, ◌⊎◌, ◌+◌, ◌-◌, ◌≤◌, ℕ, List, ◌++◌, length, take, drop, Result, Ok, Err, IfOk, IfErr, refl, sym, ap, ◌∙◌, subst, inl, inr, arith}
use Rattle.std.proofs.lemmas.Bool.{cases_eq, cases_lt}
use Rattle.std.proofs.lemmas.List.{drop_at, length-append, take-append-drop, take_at}
use Rattle.block_ciphers.specs.Bytes.{IsBytes}
use Rattle.block_ciphers.specs.declared.error.KerberosCryptoError.{KerberosCryptoError}
use Rattle.block_ciphers.specs.declared.error.KerberosCryptoError.TheVariants.{IntegrityCheck, Memory}
use Rattle.block_ciphers.proofs.States.{IsBytes-append, IsBytes-take}
use Rattle.encryption_profiles.specs.Profile.{Profile, ke_of, ki_of}
use Rattle.encryption_profiles.specs.Sealing.{IsEncryptedAs, IsNothingSealedAs, IsOpeningAs, IsSealedAs, encryption_tag_of}
use Rattle.encryption_profiles.proofs.Laws.{HasLaws}

-- the bytes before the checksum
abbrev pub front_of : Profile → List ℕ → List ℕ
front_of profile bytes = take (length bytes - profile.tag_size) bytes

-- the checksum that belongs behind a text that is encrypted to these bytes
abbrev pub tag_behind : Profile → List ℕ → ℕ → List ℕ → List ℕ → List ℕ
tag_behind profile key usage text cipher = encryption_tag_of profile key usage (profile.covered text cipher)

-- what is sealed is the encrypted text, and behind it the checksum
pub record IsSplit (profile : Profile) (key : List ℕ) (usage : ℕ) (text bytes : List ℕ) : Type 0 where
  pub text_long : profile.confounder_size ≤ length text
  pub text_bytes : IsBytes text
  pub encrypted : IsEncryptedAs profile key usage text (front_of profile bytes)
  pub tag : drop (length bytes - profile.tag_size) bytes ≡ tag_behind profile key usage (profile.filled text) (front_of profile bytes)

-- any text that is encrypted to the bytes before the checksum is this one, once padded
abbrev pub IsOnlyText : Profile → List ℕ → ℕ → List ℕ → List ℕ → Type 0
IsOnlyText profile key usage text bytes = (q : List ℕ) → IsBytes q → profile.confounder_size ≤ length q
    → IsEncryptedAs profile key usage q (front_of profile bytes) → profile.filled q ≡ text

-- two texts that are one behind their confounders
apart : (size : ℕ) (c p d q : List ℕ) → length c ≡ size → length d ≡ size → c ++ p ≡ d ++ q → (c ≡ d) × (p ≡ q)
apart size c p d q c_sized d_sized same =
    (sym (take_at c p size c_sized) ∙ ap (take size) same ∙ take_at d q size d_sized, sym (drop_at c p size c_sized) ∙ ap (drop size) same ∙ drop_at d q size d_sized)

module _ (profile : Profile) (laws : HasLaws profile) where
  text_long : (conf plain : List ℕ) → length conf ≡ profile.confounder_size → profile.confounder_size ≤ length (conf ++ plain)
  text_long conf plain sized = omega (arith, length-append conf plain, sized)

  -- confounder, padded text and checksum, in bytes
  pub sealed_sized : (key : List ℕ) (usage : ℕ) (conf plain bytes : List ℕ) → IsSealedAs profile key usage conf plain bytes
      → length bytes ≡ profile.confounder_size + length (profile.filled plain) + profile.tag_size
  sealed_sized key usage conf plain bytes x =
      let tag : List ℕ = tag_behind profile key usage (profile.filled (conf ++ plain)) x.cipher in
      let tag_len : length tag ≡ profile.tag_size = laws.tag_sized (ki_of profile key usage) (profile.covered (profile.filled (conf ++ plain)) x.cipher) in
      let cipher_len = laws.cipher_sized (ke_of profile key usage) (conf ++ plain) x.cipher (text_long conf plain x.conf_sized) x.encrypted in
      let filled_len : length (profile.filled (conf ++ plain)) ≡ profile.confounder_size + length (profile.filled plain) =
      ap length (laws.filled_behind conf plain x.conf_sized) ∙ length-append conf (profile.filled plain) ∙ ap (λ (n : ℕ). n + length (profile.filled plain)) x.conf_sized in
      let all : length bytes ≡ length x.cipher + profile.tag_size = ap length x.tagged ∙ length-append x.cipher tag ∙ ap (λ (n : ℕ). length x.cipher + n) tag_len in
      all ∙ ap (λ (n : ℕ). n + profile.tag_size) (cipher_len ∙ filled_len)

  -- memory is the only refusal where the lengths are right; where they aren't, nothing is sealed
  pub refused_by_length : {A : Type 0} (key : List ℕ) (usage : ℕ) (bytes : List ℕ) (r : Result A KerberosCryptoError)
      → (profile.confounder_size + profile.tag_size ≤ length bytes → length key ≡ profile.key_size → IfErr r (λ e. e ≡ Memory)) → IfErr r (λ e. (e ≡ Memory) ⊎ IsNothingSealedAs profile key usage bytes)
  refused_by_length key usage bytes (Ok d) memory = tt
  refused_by_length key usage bytes (Err e) memory =
      elim (cases_lt (length bytes) (profile.confounder_size + profile.tag_size)) [
        | inl short ↦ inr (λ c p x. let long = sealed_sized key usage c p bytes x in absurd (omega (arith, short, long)))
        | inr long ↦ elim (cases_eq (length key) profile.key_size) [
          | inl same ↦ inl (memory long same)
          | inr other ↦ inr (λ c p x. other x.key_sized)
        ]
      ]

  -- each choice has one string
  pub one_string : (key : List ℕ) (usage : ℕ) (conf plain b c : List ℕ) → IsSealedAs profile key usage conf plain b → IsSealedAs profile key usage conf plain c → b ≡ c
  one_string key usage conf plain b c x y =
      let long = text_long conf plain x.conf_sized in
      let same = laws.one_cipher (ke_of profile key usage) (conf ++ plain) x.cipher y.cipher long x.encrypted y.encrypted in
      x.tagged ∙ ap (λ (d : List ℕ). d ++ tag_behind profile key usage (profile.filled (conf ++ plain)) d) same ∙ sym y.tagged

  pub sealed_split : (key : List ℕ) (usage : ℕ) (conf plain bytes : List ℕ) → IsSealedAs profile key usage conf plain bytes → IsSplit profile key usage (conf ++ plain) bytes
  sealed_split key usage conf plain bytes x =
      let tag : List ℕ = tag_behind profile key usage (profile.filled (conf ++ plain)) x.cipher in
      let tag_len : length tag ≡ profile.tag_size = laws.tag_sized (ki_of profile key usage) (profile.covered (profile.filled (conf ++ plain)) x.cipher) in
      let all : length bytes ≡ length x.cipher + profile.tag_size = ap length x.tagged ∙ length-append x.cipher tag ∙ ap (λ (n : ℕ). length x.cipher + n) tag_len in
      let cut : length bytes - profile.tag_size ≡ length x.cipher = omega (arith, all) in
      let front : front_of profile bytes ≡ x.cipher = ap (λ (n : ℕ). take n bytes) cut ∙ ap (take (length x.cipher)) x.tagged ∙ take_at x.cipher tag (length x.cipher) refl in
      let back : drop (length bytes - profile.tag_size) bytes ≡ tag = ap (λ (n : ℕ). drop n bytes) cut ∙ ap (drop (length x.cipher)) x.tagged ∙ drop_at x.cipher tag (length x.cipher) refl in
      record {
        text_long = text_long conf plain x.conf_sized;
        text_bytes = IsBytes-append conf plain x.conf_bytes x.plain_bytes;
        encrypted = subst (λ (c : List ℕ). IsEncryptedAs profile key usage (conf ++ plain) c) (sym front) x.encrypted;
        tag = back ∙ ap (λ (c : List ℕ). tag_behind profile key usage (profile.filled (conf ++ plain)) c) (sym front);
      }

  -- where the text's checksum isn't the one that came along, nothing is sealed
  pub nothing_tagged : (key : List ℕ) (usage : ℕ) (text bytes : List ℕ) → IsOnlyText profile key usage text bytes
      → (tag_behind profile key usage text (front_of profile bytes) ≡ drop (length bytes - profile.tag_size) bytes → ⊥) → IsNothingSealedAs profile key usage bytes
  nothing_tagged key usage text bytes only differs = λ c p x.
      let split = sealed_split key usage c p bytes x in
      let same : profile.filled (c ++ p) ≡ text = only (c ++ p) split.text_bytes split.text_long split.encrypted in
      differs (ap (λ (t : List ℕ). tag_behind profile key usage t (front_of profile bytes)) (sym same) ∙ sym split.tag)

  -- where it is, the text is what is sealed
  pub opening_from_parts : (key : List ℕ) (usage : ℕ) (conf plain bytes : List ℕ) → length key ≡ profile.key_size → IsBytes key → length conf ≡ profile.confounder_size → IsBytes conf → IsBytes plain
      → profile.filled (conf ++ plain) ≡ conf ++ plain → IsEncryptedAs profile key usage (conf ++ plain) (front_of profile bytes) → IsOnlyText profile key usage (conf ++ plain) bytes
      → tag_behind profile key usage (conf ++ plain) (front_of profile bytes) ≡ drop (length bytes - profile.tag_size) bytes → IsOpeningAs profile key usage plain bytes
  opening_from_parts key usage conf plain bytes key_sized key_bytes conf_sized conf_bytes plain_bytes whole encrypted only tag = (
    conf,
    record {
      key_sized = key_sized;
      key_bytes = key_bytes;
      conf_sized = conf_sized;
      conf_bytes = conf_bytes;
      plain_bytes = plain_bytes;
      cipher = front_of profile bytes;
      encrypted = encrypted;
      tagged = sym (take-append-drop (length bytes - profile.tag_size) bytes)
          ∙ ap (λ (t : List ℕ). front_of profile bytes ++ t) (sym tag ∙ ap (λ (t : List ℕ). tag_behind profile key usage t (front_of profile bytes)) (sym whole));
    },
    λ c p x.
        let split = sealed_split key usage c p bytes x in
        let same = only (c ++ p) split.text_bytes split.text_long split.encrypted in
        apart profile.confounder_size c (profile.filled p) conf plain x.conf_sized conf_sized (sym (laws.filled_behind c p x.conf_sized) ∙ same),
  )

  -- what the comparison of the checksum that was computed with the one that came along tells, by its outcome
  pub verified : {A : Type 0} (items : A → List ℕ) (key : List ℕ) (usage : ℕ) (conf : List ℕ) (plain : A) (computed came bytes : List ℕ) (r : Result A KerberosCryptoError)
      → IfOk r (λ p. (p ≡ plain) × (computed ≡ came)) → IfErr r (λ e. (e ≡ IntegrityCheck) × (computed ≢ came))
      → length key ≡ profile.key_size → IsBytes key → length conf ≡ profile.confounder_size → IsBytes conf → IsBytes (items plain)
      → profile.filled (conf ++ items plain) ≡ conf ++ items plain → IsEncryptedAs profile key usage (conf ++ items plain) (front_of profile bytes) → IsOnlyText profile key usage (conf ++ items plain) bytes
      → computed ≡ tag_behind profile key usage (conf ++ items plain) (front_of profile bytes) → came ≡ drop (length bytes - profile.tag_size) bytes
      → IfOk r (λ p. IsOpeningAs profile key usage (items p) bytes) × IfErr r (λ e. (e ≡ Memory) ⊎ IsNothingSealedAs profile key usage bytes)
  verified items key usage conf plain computed came bytes (Ok p) passed failed key_sized key_bytes conf_sized conf_bytes plain_bytes whole encrypted only tag back =
      let opening = opening_from_parts key usage conf (items plain) bytes key_sized key_bytes conf_sized conf_bytes plain_bytes whole encrypted only (sym tag ∙ passed.1 ∙ back) in
      (subst (λ q. IsOpeningAs profile key usage (items q) bytes) (sym passed.0) opening, tt)
  verified items key usage conf plain computed came bytes (Err e) passed failed key_sized key_bytes conf_sized conf_bytes plain_bytes whole encrypted only tag back =
      (tt, inr (nothing_tagged key usage (conf ++ items plain) bytes only (λ same. failed.1 (tag ∙ same ∙ sym back))))

  -- a ciphertext has one confounder, and one plaintext up to padding
  pub one_opening : (key : List ℕ) (usage : ℕ) (c p d q bytes : List ℕ)
      → IsSealedAs profile key usage c p bytes → IsSealedAs profile key usage d q bytes → (c ≡ d) × (profile.filled p ≡ profile.filled q)
  one_opening key usage c p d q bytes x y =
      let first = sealed_split key usage c p bytes x in
      let second = sealed_split key usage d q bytes y in
      let same = laws.one_text key usage x.key_sized x.key_bytes (c ++ p) (d ++ q) (front_of profile bytes) first.text_bytes second.text_bytes first.text_long second.text_long first.encrypted second.encrypted in
      apart profile.confounder_size c (profile.filled p) d (profile.filled q) x.conf_sized y.conf_sized (sym (laws.filled_behind c p x.conf_sized) ∙ same ∙ laws.filled_behind d q y.conf_sized)

  -- a text with its padding is sealed to the same bytes
  pub sealed_with_fill : (key : List ℕ) (usage : ℕ) (conf plain bytes : List ℕ) → IsSealedAs profile key usage conf plain bytes → IsSealedAs profile key usage conf (profile.filled plain) bytes
  sealed_with_fill key usage conf plain bytes x =
      let same : profile.filled (conf ++ plain) ≡ profile.filled (conf ++ profile.filled plain) =
      laws.filled_behind conf plain x.conf_sized ∙ ap (λ (t : List ℕ). conf ++ t) (sym (laws.filled_again plain)) ∙ sym (laws.filled_behind conf (profile.filled plain) x.conf_sized) in
      record {
        key_sized = x.key_sized;
        key_bytes = x.key_bytes;
        conf_sized = x.conf_sized;
        conf_bytes = x.conf_bytes;
        plain_bytes = laws.filled_bytes plain x.plain_bytes;
        cipher = x.cipher;
        encrypted = subst (λ (t : List ℕ). profile.encrypts (ke_of profile key usage) t x.cipher) same x.encrypted;
        tagged = x.tagged ∙ ap (λ (t : List ℕ). x.cipher ++ tag_behind profile key usage t x.cipher) same;
      }

  -- and a text is sealed to whatever its padded form is sealed to
  pub sealed_without_fill : (key : List ℕ) (usage : ℕ) (conf plain bytes : List ℕ) → IsSealedAs profile key usage conf (profile.filled plain) bytes → IsSealedAs profile key usage conf plain bytes
  sealed_without_fill key usage conf plain bytes x =
      let front = laws.filled_front plain in
      let cut : take (length plain) (profile.filled plain) ≡ plain = ap (take (length plain)) front.1 ∙ take_at plain front.0 (length plain) refl in
      let same : profile.filled (conf ++ profile.filled plain) ≡ profile.filled (conf ++ plain) =
      laws.filled_behind conf (profile.filled plain) x.conf_sized ∙ ap (λ (t : List ℕ). conf ++ t) (laws.filled_again plain) ∙ sym (laws.filled_behind conf plain x.conf_sized) in
      record {
        key_sized = x.key_sized;
        key_bytes = x.key_bytes;
        conf_sized = x.conf_sized;
        conf_bytes = x.conf_bytes;
        plain_bytes = subst IsBytes cut (IsBytes-take (length plain) (profile.filled plain) x.plain_bytes);
        cipher = x.cipher;
        encrypted = subst (λ (t : List ℕ). profile.encrypts (ke_of profile key usage) t x.cipher) same x.encrypted;
        tagged = x.tagged ∙ ap (λ (t : List ℕ). x.cipher ++ tag_behind profile key usage t x.cipher) same;
      }

  -- each text of bytes is sealed to some bytes, behind each confounder
  pub has_sealed : (key : List ℕ) (usage : ℕ) (conf plain : List ℕ) → length key ≡ profile.key_size → IsBytes key → length conf ≡ profile.confounder_size → IsBytes conf → IsBytes plain
      → (bytes : List ℕ) × IsSealedAs profile key usage conf plain bytes
  has_sealed key usage conf plain key_sized key_bytes conf_sized conf_bytes plain_bytes =
      let cipher = laws.has_cipher key usage key_sized key_bytes (conf ++ plain) (IsBytes-append conf plain conf_bytes plain_bytes) in (
        cipher.0 ++ tag_behind profile key usage (profile.filled (conf ++ plain)) cipher.0,
        record {
          key_sized = key_sized;
          key_bytes = key_bytes;
          conf_sized = conf_sized;
          conf_bytes = conf_bytes;
          plain_bytes = plain_bytes;
          cipher = cipher.0;
          encrypted = cipher.1;
          tagged = refl;
        },
      )

-- Private keys in DER.
use Rattle.std.proofs.Common.{◌≡◌, ◌≢◌, ◌⊎◌, inl, inr, ℕ, Bool, true, false, eqb, List, [], ◌∷◌, drop, Result, Ok, Err, MatchResult, refl, sym, ◌∙◌, subst}
use Rattle.std.proofs.lemmas.Bool.{false≢true}
use Rattle.std.proofs.lemmas.Bool.Decides.{Decides-eqb}
use Rattle.std.proofs.lemmas.Slice.Eq.{starts_is}
use Rattle.std.specs.List.{starts_with}
use Rattle.std.specs.Bool.{MatchBool}
use Rattle.asn1_der.specs.Octets.{octet_string_octet, sequence_octet}
use Rattle.asn1_der.proofs.Elements.{element-one}
use Rattle.picky_asn1_der.specs.Raw.{Raw}
use Rattle.picky_asn1_der.specs.Splits.{IsNoSplit, SplitsInto}
use Rattle.x509_codec.specs.Answers.{ReadsSpelling}
use Rattle.x509_keys.specs.declared.private_key_info.PrivateKeyInfo.{PrivateKeyInfo}
use Rattle.x509_keys.specs.declared.private_key_value.PrivateKeyValue.TheVariants.{Rsa}
use Rattle.x509_keys.specs.declared.rsa_private_key.RsaPrivateKey.{RsaPrivateKey}
use Rattle.x509_spelling.specs.declared.fault.X509Fault.{X509Fault}
use Rattle.x509_spelling.specs.declared.fault.X509Fault.TheVariants as x509
use Rattle.x509_certificates.specs.Files.{HoldsKey, HoldsNoKey, IsEncrypted, IsKeyFound, IsKeyOf, IsNoKeyOf, IsNoPkcs1, IsNone, IsNotRsa, IsSealed, IsSpelling, IsUnread}
use Rattle.x509_certificates.specs.declared.fault.FileFault.{FileFault}
use Rattle.x509_certificates.specs.declared.fault.FileFault.TheVariants.{Memory}
use Rattle.x509_certificates.specs.declared.pem.Found.{Found}

-- the element that begins some bytes is the only one
pub same_split : (input : List ℕ) (raw other : Raw) (rest more : List ℕ) → SplitsInto input raw rest → SplitsInto input other more → (raw.first ≡ other.first) × (raw.content ≡ other.content) × (rest ≡ more)
same_split input raw other rest more left right = element-one raw.first other.first raw.content other.content rest more (sym left.1 ∙ right.1)

-- what isn't split off as an algorithm with an OCTET STRING behind it is no encrypted key's content
pub no_sealed : (content rest : List ℕ) (algorithm : Raw) → SplitsInto content algorithm rest → (algorithm.first ≡ sequence_octet → (behind : List ℕ) → rest ≡ octet_string_octet ∷ behind → ⊥) → IsSealed content → ⊥
no_sealed content rest algorithm split none sealed =
    let same = same_split content algorithm sealed.algorithm rest (octet_string_octet ∷ sealed.behind) split sealed.splits in
    none (same.0 ∙ sealed.is_sequence) sealed.behind same.2

pub no_encrypted : (der behind : List ℕ) (info : Raw) → SplitsInto der info behind → (info.first ≡ sequence_octet → IsSealed info.content → ⊥) → IsEncrypted der → ⊥
no_encrypted der behind info split none encrypted =
    let same = same_split der info encrypted.info behind encrypted.behind split encrypted.splits in
    none (same.0 ∙ encrypted.is_sequence) (subst (λ content. IsSealed content) (sym same.1) encrypted.sealed)

pub nothing_sealed : (content : List ℕ) → IsNoSplit content → IsSealed content → ⊥
nothing_sealed content none sealed = none sealed.algorithm (octet_string_octet ∷ sealed.behind) sealed.splits

pub nothing_encrypted : (der : List ℕ) → IsNoSplit der → IsEncrypted der → ⊥
nothing_encrypted der none encrypted = none encrypted.info encrypted.behind encrypted.splits

-- and what is
pub sealed_is : (content rest : List ℕ) (algorithm : Raw) (r : Bool) → SplitsInto content algorithm rest → algorithm.first ≡ sequence_octet → r ≡ starts_with eqb rest (octet_string_octet ∷ [])
    → MatchBool r (IsSealed content) (IsSealed content → ⊥)
sealed_is content rest algorithm true split first is = record {
  algorithm = algorithm;
  behind = drop 1 rest;
  splits = subst (λ octets. SplitsInto content algorithm octets) ((starts_is Decides-eqb rest (octet_string_octet ∷ []) true is).0 refl) split;
  is_sequence = first;
}
sealed_is content rest algorithm false split first is =
    no_sealed content rest algorithm split (λ _ behind e. false≢true ((starts_is Decides-eqb rest (octet_string_octet ∷ []) false is).1 behind e))

pub encrypted_is : (der behind : List ℕ) (info : Raw) (content : List ℕ) (r : Bool) → SplitsInto der info behind → info.first ≡ sequence_octet → content ≡ info.content
    → MatchBool r (IsSealed content) (IsSealed content → ⊥) → MatchBool r (IsEncrypted der) (IsEncrypted der → ⊥)
encrypted_is der behind info content true split first is h =
    record { info = info; behind = behind; splits = split; is_sequence = first; sealed = subst (λ octets. IsSealed octets) is h }
encrypted_is der behind info content false split first is h =
    no_encrypted der behind info split (λ _ sealed. h (subst (λ octets. IsSealed octets) (sym is) sealed))

-- a value that was read
pub read : {T : Type 0} (spells : T → List ℕ → ℕ → Type 0) (bytes der : List ℕ) (value : T) → bytes ≡ der → ReadsSpelling spells bytes (Ok value) → IsSpelling spells der value
unfolding IsSpelling
read spells bytes der value e (inl memory) = absurd (cc (memory))
read spells bytes der value e (inr each) =
    let spelled = (each value).0 refl in (spelled.0, subst (λ octets. spells value octets spelled.0) e spelled.1)

-- and where none was
none_read : {T : Type 0} (spells : T → List ℕ → ℕ → Type 0) (bytes der : List ℕ) (fault : X509Fault) → bytes ≡ der → ReadsSpelling spells bytes (Err fault) → fault ≢ x509.Memory → IsNone spells der
unfolding IsNone IsSpelling
none_read spells bytes der fault e (inl memory) other value s = other (cc (memory))
none_read spells bytes der fault e (inr each) other value s =
    let made = (each value).1 (s.0, subst (λ octets. spells value octets s.0) (sym e) s.1) in absurd (cc (made))

-- the key of PKCS#8
pub rsa_key : (spells_info : PrivateKeyInfo → List ℕ → ℕ → Type 0) (spells_key : RsaPrivateKey → List ℕ → ℕ → Type 0) (found : Found) (bytes : List ℕ) (info : PrivateKeyInfo) (r : Result RsaPrivateKey FileFault)
    → bytes ≡ found.der.items → ReadsSpelling spells_info bytes (Ok info) → MatchResult r (λ key. info.fields.private_key ≡ Rsa (record { 0 = key })) (IsNotRsa info found.place)
    → MatchResult r (IsKeyOf spells_info spells_key found.der.items) (IsNoKeyOf spells_info spells_key found)
unfolding IsKeyOf IsNoKeyOf
rsa_key spells_info spells_key found bytes info (Ok key) e reads h = inl (info, read spells_info bytes found.der.items info e reads, h)
rsa_key spells_info spells_key found bytes info (Err fault) e reads (inl memory) = inl memory
rsa_key spells_info spells_key found bytes info (Err fault) e reads (inr other) =
    inr (inl ((info, read spells_info bytes found.der.items info e reads, other.0), other.1))

-- why there is none of PKCS#1
pub no_pkcs1 : (spells_key : RsaPrivateKey → List ℕ → ℕ → Type 0) (found : Found) (bytes : List ℕ) (fault : X509Fault) (named : FileFault) → bytes ≡ found.der.items
    → ReadsSpelling spells_key bytes (Err fault) → ((fault ≡ x509.Memory) × (named ≡ Memory)) ⊎ ((fault ≢ x509.Memory) × IsUnread found named) → IsNoPkcs1 spells_key found named
unfolding IsNoPkcs1
no_pkcs1 spells_key found bytes fault named e reads (inl memory) = inl memory.1
no_pkcs1 spells_key found bytes fault named e reads (inr other) = inr (none_read spells_key bytes found.der.items fault e reads other.0, other.1)

-- the key of PKCS#1, where there is none of PKCS#8
pub pkcs1_key : (spells_info : PrivateKeyInfo → List ℕ → ℕ → Type 0) (spells_key : RsaPrivateKey → List ℕ → ℕ → Type 0) (found : Found) (bytes : List ℕ) (fault : X509Fault) (r : Result RsaPrivateKey FileFault)
    → bytes ≡ found.der.items → ReadsSpelling spells_info bytes (Err fault) → fault ≢ x509.Memory → MatchResult r (IsSpelling spells_key found.der.items) (IsNoPkcs1 spells_key found)
    → MatchResult r (IsKeyOf spells_info spells_key found.der.items) (IsNoKeyOf spells_info spells_key found)
unfolding IsKeyOf IsNoKeyOf
pkcs1_key spells_info spells_key found bytes fault (Ok key) e reads other h = inr h
pkcs1_key spells_info spells_key found bytes fault (Err named) e reads other h = inr (inr (none_read spells_info bytes found.der.items fault e reads other, h))

pub no_memory : (spells_info : PrivateKeyInfo → List ℕ → ℕ → Type 0) (spells_key : RsaPrivateKey → List ℕ → ℕ → Type 0) (found : Found) → IsNoKeyOf spells_info spells_key found Memory
unfolding IsNoKeyOf
no_memory spells_info spells_key found = inl refl

-- what is said of DER that was found is said of the file
pub key_held : (spells_info : PrivateKeyInfo → List ℕ → ℕ → Type 0) (spells_key : RsaPrivateKey → List ℕ → ℕ → Type 0) (file : List ℕ) (found : Found) (r : Result RsaPrivateKey FileFault)
    → IsKeyFound file found → MatchResult r (IsKeyOf spells_info spells_key found.der.items) (IsNoKeyOf spells_info spells_key found)
    → MatchResult r (HoldsKey spells_info spells_key file) (HoldsNoKey spells_info spells_key file)
key_held spells_info spells_key file found (Ok key) is h = record { found = found; is_found = is; is_key = h }
key_held spells_info spells_key file found (Err fault) is h = inr (found, is, h)

-- What holds of every suite: each fact is stated by cases here alone.
use Rattle.std.proofs.Common.{◌≡◌, ◌⊎◌, ◌≤◌, ◌<◌, ℕ, Bool, true, false, cond, List, [], ◌∷◌, Option, None, Some, refl, ap, subst, inl, inr, arith}
use Rattle.std.proofs.lemmas.Bool.{or_left, or_right}
use Rattle.std.specs.List.{find, list_any}
use Rattle.krb_crypto.specs.Suites.{checksum_suites, cipher_confounder_size, cipher_key_size, cipher_number, cipher_seed_size, cipher_suites}
use Rattle.krb_crypto.specs.declared.suite.ChecksumSuite.{ChecksumSuite}
use Rattle.krb_crypto.specs.declared.suite.ChecksumSuite.TheVariants.{HmacSha196Aes128, HmacSha196Aes256, HmacSha1Des3Kd, HmacSha256128Aes128, HmacSha384192Aes256}
use Rattle.krb_crypto.specs.declared.suite.CipherSuite.{CipherSuite}
use Rattle.krb_crypto.specs.declared.suite.CipherSuite.TheVariants.{Aes128CtsHmacSha196, Aes256CtsHmacSha196, Des3CbcSha1Kd, Aes128CtsHmacSha256128, Aes256CtsHmacSha384192}

pub confounder_below : (suite : CipherSuite) → cipher_confounder_size suite ≤ 16
confounder_below Aes128CtsHmacSha196 = omega arith
confounder_below Aes256CtsHmacSha196 = omega arith
confounder_below Des3CbcSha1Kd = omega arith
confounder_below Aes128CtsHmacSha256128 = omega arith
confounder_below Aes256CtsHmacSha384192 = omega arith

pub key_below : (suite : CipherSuite) → cipher_key_size suite ≤ 32
key_below Aes128CtsHmacSha196 = omega arith
key_below Aes256CtsHmacSha196 = omega arith
key_below Des3CbcSha1Kd = omega arith
key_below Aes128CtsHmacSha256128 = omega arith
key_below Aes256CtsHmacSha384192 = omega arith

pub seed_below : (suite : CipherSuite) → cipher_seed_size suite ≤ 32
seed_below Aes128CtsHmacSha196 = omega arith
seed_below Aes256CtsHmacSha196 = omega arith
seed_below Des3CbcSha1Kd = omega arith
seed_below Aes128CtsHmacSha256128 = omega arith
seed_below Aes256CtsHmacSha384192 = omega arith

pub number_below : (suite : CipherSuite) → cipher_number suite < 256
number_below Aes128CtsHmacSha196 = omega arith
number_below Aes256CtsHmacSha196 = omega arith
number_below Des3CbcSha1Kd = omega arith
number_below Aes128CtsHmacSha256128 = omega arith
number_below Aes256CtsHmacSha384192 = omega arith

-- what a test finds passes it
pub found_passes : {A : Type 0} (p : A → Bool) (xs : List A) (x : A) → find p xs ≡ Some x → p x ≡ true
found_passes p [] x e = absurd (cc (e))
found_passes {A} p (y ∷ ys) x e =
    elim (p y) as (λ b. p y ≡ b → cond b (Some y) (find p ys) ≡ Some x → p x ≡ true) [
      | true ↦ λ passes first. let same : y ≡ x = cc (first) in subst (λ (z : A). p z ≡ true) same passes
      | false ↦ λ fails later. found_passes p ys x later
    ] refl e

-- the only one that passes is found
abbrev In : {A : Type 0} → A → List A → Type 0
In x [] = ⊥
In x (y ∷ ys) = (x ≡ y) ⊎ In x ys

found_in : {A : Type 0} (p : A → Bool) (xs : List A) (x : A) → p x ≡ true → ((y : A) → p y ≡ true → y ≡ x) → In x xs → find p xs ≡ Some x
found_in p [] x passes sole inside = absurd inside
found_in p (y ∷ ys) x passes sole inside =
    elim (p y) as (λ b. p y ≡ b → cond b (Some y) (find p ys) ≡ Some x) [
      | true ↦ λ is. ap Some (sole y is)
      | false ↦ λ fails. elim inside [ inl here ↦ absurd (cc (here, passes, fails)) | inr later ↦ found_in p ys x passes sole later ]
    ] refl

in_all : (suite : CipherSuite) → In suite cipher_suites
in_all Aes128CtsHmacSha196 = inl refl
in_all Aes256CtsHmacSha196 = inr (inl refl)
in_all Des3CbcSha1Kd = inr (inr (inl refl))
in_all Aes128CtsHmacSha256128 = inr (inr (inr (inl refl)))
in_all Aes256CtsHmacSha384192 = inr (inr (inr (inr (inl refl))))

pub suite_found : (p : CipherSuite → Bool) (suite : CipherSuite) → p suite ≡ true → ((s : CipherSuite) → p s ≡ true → s ≡ suite) → find p cipher_suites ≡ Some suite
suite_found p suite passes sole = found_in p cipher_suites suite passes sole (in_all suite)

-- a test that a checksum passes finds one
any_in : {A : Type 0} (p : A → Bool) (xs : List A) (x : A) → p x ≡ true → In x xs → list_any p xs ≡ true
any_in p [] x passes inside = absurd inside
any_in {A} p (y ∷ ys) x passes inside =
    elim inside [
      | inl here ↦ or_left (p y) (list_any p ys) (subst (λ (z : A). p z ≡ true) here passes)
      | inr later ↦ or_right (p y) (list_any p ys) (any_in p ys x passes later)
    ]

in_all_checksums : (suite : ChecksumSuite) → In suite checksum_suites
in_all_checksums HmacSha196Aes128 = inl refl
in_all_checksums HmacSha196Aes256 = inr (inl refl)
in_all_checksums HmacSha1Des3Kd = inr (inr (inl refl))
in_all_checksums HmacSha256128Aes128 = inr (inr (inr (inl refl)))
in_all_checksums HmacSha384192Aes256 = inr (inr (inr (inr (inl refl))))

pub some_checksum : (p : ChecksumSuite → Bool) (suite : ChecksumSuite) → p suite ≡ true → list_any p checksum_suites ≡ true
some_checksum p suite passes = any_in p checksum_suites suite passes (in_all_checksums suite)

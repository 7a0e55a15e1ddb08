-- What is sealed is no longer than what it is sealed to.
use Rattle.std.proofs.Common.{◌≡◌, ◌≤◌, ◌<◌, ℕ, ◌+◌, ◌-◌, ◌*◌, List, ◌++◌, length, take, drop, replicate, ap, ◌∙◌, inl, inr, subst, arith, lit<}
use Rattle.std.proofs.lemmas.Bool.{cases_lt}
use Rattle.std.proofs.lemmas.List.{length-append, length-drop, length-take-le}
use Rattle.asn1_der.specs.Tree.{Tree}
use Rattle.block_ciphers.specs.Chains.{IsChained, IsStolen, block_at, block_count, exchanged, zero_filled}
use Rattle.block_ciphers.proofs.Stealing.{length-zero_filled}
use Rattle.encryption_profiles.specs.Profile.{ke_of}
use Rattle.encryption_profiles.specs.Sealing.{encryption_tag_of}
use Rattle.krb_crypto.specs.Sealing.{IsSealedBy}
use Rattle.krb_crypto.specs.Suites.{cipher_profile}
use Rattle.krb_crypto.specs.declared.suite.CipherSuite.{CipherSuite}
use Rattle.krb_crypto.specs.declared.suite.CipherSuite.TheVariants.{Aes128CtsHmacSha196, Aes256CtsHmacSha196, Des3CbcSha1Kd, Aes128CtsHmacSha256128, Aes256CtsHmacSha384192}
use Rattle.krb_messages.specs.declared.data_types.encrypted_data.EncryptedData.{EncryptedData}
use Rattle.krb_tickets.specs.SealedData.{IsSealedIn}
use Rattle.krb_kdc_exchanges.proofs.Short.{Fits, IsShort}

-- a chain of a padded text is at least as long as the text
chained_longer : (size : ℕ) (E : List ℕ → List ℕ) (p c : List ℕ) → IsChained size E (zero_filled size p) c → length p ≤ length c
chained_longer size E p c chained =
    omega (arith, chained.same_length, length-append p (replicate (size * block_count size (length p) - length p) 0))

-- with its last two blocks exchanged it is cut to the length of the text
exchanged_length : (n : ℕ) (x : List ℕ) → 16 < n → length x ≡ 16 * block_count 16 n → length (exchanged 16 (block_count 16 n - 2) n x) ≡ n
exchanged_length n x long sized =
    let m : ℕ = block_count 16 n - 2 in
    let front : length (take (16 * m) x) ≡ 16 * m = length-take-le (16 * m) x (omega (arith, sized)) in
    let last : length (block_at 16 x (m + 1)) ≡ 16 = length-take-le 16 (drop (16 * (m + 1)) x) (omega (arith, sized, length-drop (16 * (m + 1)) x)) in
    let mid : length (block_at 16 x m) ≡ 16 = length-take-le 16 (drop (16 * m) x) (omega (arith, sized, length-drop (16 * m) x)) in
    let cut : length (take (n - 16 * (m + 1)) (block_at 16 x m)) ≡ n - 16 * (m + 1) = length-take-le (n - 16 * (m + 1)) (block_at 16 x m) (omega (arith, mid)) in
    omega (arith, front, last, cut, length-append (take (16 * m) x ++ block_at 16 x (m + 1)) (take (n - 16 * (m + 1)) (block_at 16 x m)), length-append (take (16 * m) x) (block_at 16 x (m + 1)))

stolen_longer : (E : List ℕ → List ℕ) (p c : List ℕ) → IsStolen 16 E p c → length p ≤ length c
stolen_longer E p c stolen =
    elim (cases_lt 16 (length p)) [
      | inl more ↦
          (let long = stolen.long more in
          let sized : length long.0 ≡ 16 * block_count 16 (length p) = long.1.same_length ∙ length-zero_filled 16 p (lit< tt) in
          omega (arith, ap length long.2, exchanged_length (length p) long.0 more sized))
      | inr few ↦ chained_longer 16 E p c (stolen.short few)
    ]

encrypted_longer : (suite : CipherSuite) (key : List ℕ) (text c : List ℕ) → (cipher_profile suite).encrypts key ((cipher_profile suite).filled text) c → length text ≤ length c
encrypted_longer Aes128CtsHmacSha196 key text c x = stolen_longer _ text c x
encrypted_longer Aes256CtsHmacSha196 key text c x = stolen_longer _ text c x
encrypted_longer Des3CbcSha1Kd key text c x = chained_longer 8 _ text c x
encrypted_longer Aes128CtsHmacSha256128 key text c x = stolen_longer _ text c x
encrypted_longer Aes256CtsHmacSha384192 key text c x = stolen_longer _ text c x

sealed_longer : (suite : CipherSuite) (key : List ℕ) (usage : ℕ) (conf plain bytes : List ℕ) → IsSealedBy suite key usage conf plain bytes → length plain ≤ length bytes
sealed_longer suite key usage conf plain bytes x =
    omega (arith, encrypted_longer suite (ke_of (cipher_profile suite) key usage) (conf ++ plain) x.cipher x.encrypted, length-append conf plain, ap length x.tagged, length-append x.cipher (encryption_tag_of (cipher_profile suite) key usage ((cipher_profile suite).covered ((cipher_profile suite).filled (conf ++ plain)) x.cipher)))

-- what a key opens is bytes, no more than the ciphertext
pub opened_fits : {T : Type 0} (tree : T → Tree) (suite : CipherSuite) (key : List ℕ) (usage : ℕ) (encrypted : EncryptedData) (value : T) (n : ℕ)
    → IsSealedIn {T = T} tree suite key usage encrypted value → IsShort n encrypted.cipher.0 → Fits n (tree value)
opened_fits tree suite key usage encrypted value n x short =
    let sealed = x.opens.sealed.2 in
    let own : IsShort n x.opens.plain = record {
      bytes = sealed.plain_bytes;
      short = omega (arith, short.short, sealed_longer x.opens.sealed.0 key usage x.opens.conf x.opens.plain encrypted.cipher.0 sealed);
    } in
    record { written = subst (IsShort n) x.opens.writes.1 own }

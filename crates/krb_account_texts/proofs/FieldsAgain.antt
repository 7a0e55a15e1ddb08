-- What is written of a field of an account is read as that field.
use Rattle.std.proofs.Common.{◌≡◌, ℕ, suc, zero, ◌/◌, ◌<◌, ◌≤◌, ◌^◌, ◌==◌, ◌&&◌, nat_eq, Bool, true, false, [], ◌∷◌, length, slice_index, codes, Option, None, Some, Ok, IsTrue, refl, ap, ◌∙◌, arith}
use Rattle.std.specs.Fmt.{decimal}
use Rattle.std.specs.Cmp.Lexicographic.{pointwise}
use Rattle.std.proofs.lemmas.Bool.{and_parts, ltb-true}
use Rattle.std.proofs.lemmas.Bool.Decides.{nat_tests}
use Rattle.hex.specs.Hex.{IsBytes, encode_lower, encode_with, lower_digits}
use Rattle.hex.proofs.HexLemmas.{decode_of-encode_lower}
use Rattle.picky_asn1.specs.Bytes.{Bytes}
use Rattle.krb_messages.specs.NameReading.{is_ascii}
use Rattle.krb_crypto.specs.Suites.{cipher_key_size}
use Rattle.krb_crypto.specs.declared.suite.CipherSuite.{CipherSuite}
use Rattle.krb_crypto.specs.declared.suite.CipherSuite.TheVariants.{Aes128CtsHmacSha196, Aes256CtsHmacSha196, Des3CbcSha1Kd, Aes128CtsHmacSha256128, Aes256CtsHmacSha384192}
use Rattle.krb_settings.specs.Fields.{suite_name}
use Rattle.krb_account_texts.specs.Lines.{salt_text}
use Rattle.krb_account_texts.specs.Reading.{judged_kvno, key_in, kvno_in, salt_in, suite_in}
use Rattle.krb_account_texts.specs.Writable.{IsSalt}
use Rattle.krb_account_texts.proofs.Numbers.{decimal-read}

-- suites
pub suite-again : (suite : CipherSuite) → suite_in (suite_name suite) ≡ Ok suite
unfolding suite_name suite_in
suite-again Aes128CtsHmacSha196 = refl
suite-again Aes256CtsHmacSha196 = refl
suite-again Des3CbcSha1Kd = refl
suite-again Aes128CtsHmacSha256128 = refl
suite-again Aes256CtsHmacSha384192 = refl

-- kvnos
pub kvno-again : (kvno : ℕ) → 1 ≤ kvno → kvno < 2 ^ 32 → kvno_in (decimal kvno) ≡ Ok kvno
kvno-again kvno from_one fits =
    let some : (kvno == 0) ≡ false = grind (arith, nat_tests) in
    ap judged_kvno (decimal-read kvno fits) ∙ rw some refl

-- salts
and-none : (b : Bool) → (b && false) ≡ false
and-none true = refl
and-none false = refl

no-dash : (salt : Bytes) → pointwise nat_eq (encode_lower salt) (codes "-") ≡ false
unfolding encode_with
no-dash [] = refl
no-dash (octet ∷ salt) = and-none (nat_eq (slice_index lower_digits (octet / 16)) 45)

ascii-bytes : (octets : Bytes) → IsTrue (is_ascii octets) → IsBytes octets
ascii-bytes [] ascii i = omega arith
ascii-bytes (octet ∷ octets) ascii zero =
    let below : octet < 128 = ltb-true octet 128 (and_parts _ _ ascii).0 in
    omega arith
ascii-bytes (octet ∷ octets) ascii (suc i) = ascii-bytes octets (and_parts _ _ ascii).1 i

pub salt-again : (salt : Option Bytes) → IsSalt salt → salt_in (salt_text salt) ≡ Ok salt
unfolding salt_in
salt-again None is = refl
salt-again (Some salt) is = rw (no-dash salt, decode_of-encode_lower salt (ascii-bytes salt is), is) refl

-- keys
pub key-again : (suite : CipherSuite) (key : Bytes) → length key ≡ cipher_key_size suite → IsBytes key → key_in suite (encode_lower key) ≡ Ok key
unfolding key_in
key-again suite key size bytes =
    let fits : (length key == cipher_key_size suite) ≡ true = grind (arith, nat_tests) in
    rw (decode_of-encode_lower key bytes, fits) refl

-- The suites that a client takes, and how strong they are.
use Rattle.std.specs.Prelude.{◌≡◌, ◌==◌, ℕ, Bool, false, min, List, [], ◌∷◌, refl}
use Rattle.std.specs.List.{list_any}
use Rattle.krb_crypto.specs.Suites.{cipher_number}
use Rattle.krb_crypto.specs.declared.suite.CipherSuite.{CipherSuite}
use Rattle.krb_crypto.specs.declared.suite.CipherSuite.TheVariants.{Aes128CtsHmacSha196, Aes256CtsHmacSha196, Des3CbcSha1Kd, Aes128CtsHmacSha256128, Aes256CtsHmacSha384192}
use Rattle.krb_client_exchanges.specs.declared.wanted.TheConstants.{USUAL_SUITES}
use Rattle.krb_client_exchanges.specs.declared.wanted.Wanted.{Wanted}
use Rattle.krb_client_exchanges.specs.declared.wanted.Wanted.TheVariants.{Chosen, Usual}

-- The suites that a request lists: those of AES, or where the user names some, these in their order.
abbrev pub suites_of : Wanted → List CipherSuite
suites_of Usual = USUAL_SUITES
suites_of (Chosen suites) = suites.now

-- The suite is one of these.
abbrev pub is_one_of : List CipherSuite → CipherSuite → Bool
is_one_of suites suite = list_any (λ own. cipher_number own == cipher_number suite) suites

-- How strong a suite's keys are, in bits: AES has as many as its keys, triple DES has 112 (NIST SP 800-57 part 1, table 2).
abbrev pub strength : CipherSuite → ℕ
strength Aes128CtsHmacSha196 = 128
strength Aes256CtsHmacSha196 = 256
strength Des3CbcSha1Kd = 112
strength Aes128CtsHmacSha256128 = 128
strength Aes256CtsHmacSha384192 = 256

-- How strong a request is that lists these suites: as the weakest one of them, since whoever answers may choose it.
abbrev pub weakest : List CipherSuite → ℕ
weakest [] = 256
weakest (suite ∷ suites) = min (strength suite) (weakest suites)

-- worked: without a choice of the user's, no request is weaker than 128 bits
usual_strength : weakest USUAL_SUITES ≡ 128
usual_strength = refl

no_triple_des : is_one_of USUAL_SUITES Des3CbcSha1Kd ≡ false
no_triple_des = refl

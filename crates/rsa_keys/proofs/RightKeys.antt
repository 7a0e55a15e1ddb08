-- The own key of a right private key signs, and its signature is that of the first form.
use Rattle.std.proofs.Common.{◌≡◌, ℕ, ◌^◌, ◌%◌, Bool, true, false, cond, length, Option, Some, None, refl, sym, ap, ◌∙◌, subst}
use Rattle.std.specs.Option.{option_map}
use Rattle.picky_asn1.specs.Bytes.{Bytes}
use Rattle.picky_asn1.specs.Integer.{unsigned_octets}
use Rattle.x509_keys.specs.SignedBy.{signed_by}
use Rattle.x509_keys.specs.declared.functions.Signed.{Signed}
use Rattle.x509_keys.specs.declared.rsa_private_key.RsaPrivateKey.{RsaPrivateKey}
use Rattle.x509_keys.specs.declared.rsa_public_key.RsaPublicKey.{RsaPublicKey}
use Rattle.modular_arithmetic.specs.Naturals.{i2osp, os2ip}
use Rattle.public_key_cryptography.specs.Pkcs1.{encoded, signature_of}
use Rattle.public_key_cryptography.specs.Primes.{ArePrimesOf, root_of}
use Rattle.public_key_cryptography.specs.RightKeys.{AreFactors, ArePair, AreRight, IsRight, IsSecondForm}
use Rattle.public_key_cryptography.specs.declared.hash.HashFunction.TheVariants.{Sha256}
use Rattle.public_key_cryptography.specs.declared.rsa_primes.PrimeNumbers.{PrimeNumbers}
use Rattle.public_key_cryptography.specs.declared.rsa_primes.Primes.{Primes}
use Rattle.public_key_cryptography.proofs.RsaRoots.{one_root}
use Rattle.public_key_cryptography.proofs.Signing.{right-signs}
use Rattle.rsa_keys.specs.Functions.{signed_by_own}
use Rattle.rsa_keys.specs.PrivateKeys.{IsOwnKeyOf}
use Rattle.rsa_keys.specs.PrivateNumbers.{AreNumbersOf, ArePrimesIn, HaveNumbers, IsRightKey, number_of, signature_by}
use Rattle.rsa_keys.specs.declared.own_key.OwnKey.{OwnKey}

-- primes that are taken only if they fit
pub taken_primes : (numbers : PrimeNumbers) (fits : Bool) (primes : Primes) (given : Option Primes) → given ≡ cond fits (Some primes) None → ArePrimesOf primes numbers
    → HaveNumbers numbers given
taken_primes numbers true primes given e h = subst (HaveNumbers numbers) (sym e) h
taken_primes numbers false primes given e h = subst (HaveNumbers numbers) (sym e) tt

-- no primes
pub no_primes : (numbers : PrimeNumbers) (given : Option Primes) → given ≡ None → HaveNumbers numbers given
no_primes numbers given e = subst (HaveNumbers numbers) (sym e) tt

-- the signature of a right key
pub right-made : (own : OwnKey) (text : Bytes) → IsRight own.private → (made : Signed) × (signed_by_own own text ≡ Some made)
right-made own text right = (
  signed_by own.algorithm (signature_of own.private Sha256 text),
  ap (λ signature. option_map (λ octets. signed_by own.algorithm octets) signature) (right-signs own.private Sha256 text right),
)

second-at : (n e p q a b c n2 e2 p2 q2 a2 b2 c2 : ℕ) → n ≡ n2 → e ≡ e2 → p ≡ p2 → q ≡ q2 → a ≡ a2 → b ≡ b2 → c ≡ c2 → IsSecondForm n2 e2 p2 q2 a2 b2 c2
    → IsSecondForm n e p q a b c
second-at n e p q a b c n2 e2 p2 q2 a2 b2 c2 n_is e_is p_is q_is a_is b_is c_is h =
    subst (λ (x : ℕ). IsSecondForm x e p q a b c) (sym n_is)
    (subst (λ (x : ℕ). IsSecondForm n2 x p q a b c) (sym e_is)
    (subst (λ (x : ℕ). IsSecondForm n2 e2 x q a b c) (sym p_is)
    (subst (λ (x : ℕ). IsSecondForm n2 e2 p2 x a b c) (sym q_is)
    (subst (λ (x : ℕ). IsSecondForm n2 e2 p2 q2 x b c) (sym a_is)
    (subst (λ (x : ℕ). IsSecondForm n2 e2 p2 q2 a2 x c) (sym b_is)
    (subst (λ (x : ℕ). IsSecondForm n2 e2 p2 q2 a2 b2 x) (sym c_is) h))))))

pair-at : (e d p q e2 d2 p2 q2 : ℕ) → e ≡ e2 → d ≡ d2 → p ≡ p2 → q ≡ q2 → ArePair e2 d2 p2 q2 → ArePair e d p q
pair-at e d p q e2 d2 p2 q2 e_is d_is p_is q_is h =
    subst (λ (x : ℕ). ArePair x d p q) (sym e_is)
    (subst (λ (x : ℕ). ArePair e2 x p q) (sym d_is)
    (subst (λ (x : ℕ). ArePair e2 d2 x q) (sym p_is)
    (subst (λ (x : ℕ). ArePair e2 d2 p2 x) (sym q_is) h)))

-- the numbers of primes, which are the private key's
module _ (key : RsaPrivateKey) (primes : Primes) (numbers : PrimeNumbers) (are : AreNumbersOf key numbers) (have : ArePrimesOf primes numbers) where
  first-is : primes.first.modulus.value ≡ number_of key.prime_1
  first-is = primes.first.value ∙ ap (λ octets. os2ip octets.items) have.prime1 ∙ ap (λ octets. os2ip octets) are.prime1

  second-is : primes.second.modulus.value ≡ number_of key.prime_2
  second-is = primes.second.value ∙ ap (λ octets. os2ip octets.items) have.prime2 ∙ ap (λ octets. os2ip octets) are.prime2

  second-form : (n e : ℕ) → n ≡ number_of key.modulus → e ≡ number_of key.public_exponent → IsRightKey key
      → IsSecondForm n e primes.first.modulus.value primes.second.modulus.value
      (os2ip primes.first.exponent.items) (os2ip primes.second.exponent.items) (os2ip primes.coefficient.items)
  second-form n e n_is e_is right =
      second-at n e primes.first.modulus.value primes.second.modulus.value
      (os2ip primes.first.exponent.items) (os2ip primes.second.exponent.items) (os2ip primes.coefficient.items)
      (number_of key.modulus) (number_of key.public_exponent) (number_of key.prime_1) (number_of key.prime_2)
      (number_of key.exponent_1) (number_of key.exponent_2) (number_of key.coefficient) n_is e_is first-is second-is
      (ap (λ octets. os2ip octets.items) have.exponent1 ∙ ap (λ octets. os2ip octets) are.exponent1)
      (ap (λ octets. os2ip octets.items) have.exponent2 ∙ ap (λ octets. os2ip octets) are.exponent2)
      (ap (λ octets. os2ip octets.items) have.coefficient ∙ ap (λ octets. os2ip octets) are.coefficient) right.second

  second-root : (n e d m : ℕ) → n ≡ number_of key.modulus → e ≡ number_of key.public_exponent → d ≡ number_of key.private_exponent → IsRightKey key
      → root_of (Some primes) n d m ≡ m ^ d % n
  second-root n e d m n_is e_is d_is right =
      one_root n e d primes.first.modulus.value primes.second.modulus.value
      (os2ip primes.first.exponent.items) (os2ip primes.second.exponent.items) (os2ip primes.coefficient.items) m
      (second-form n e n_is e_is right)
      (pair-at e d primes.first.modulus.value primes.second.modulus.value
      (number_of key.public_exponent) (number_of key.private_exponent) (number_of key.prime_1) (number_of key.prime_2) e_is d_is first-is second-is right.pair)

right-at : (key : RsaPrivateKey) (primes : Option Primes) (n e d : ℕ) → n ≡ number_of key.modulus → e ≡ number_of key.public_exponent → d ≡ number_of key.private_exponent
    → IsRightKey key → ArePrimesIn key primes → AreRight primes n e d
right-at key (Some primes) n e d n_is e_is d_is right h = second-form key primes h.0 h.1 h.2 n e n_is e_is right
right-at key None n e d n_is e_is d_is right h = record {
  p = number_of key.prime_1;
  q = number_of key.prime_2;
  factors = subst (λ (x : ℕ). AreFactors x (number_of key.prime_1) (number_of key.prime_2)) (sym n_is) right.second.factors;
  pair = pair-at e d (number_of key.prime_1) (number_of key.prime_2) (number_of key.public_exponent) (number_of key.private_exponent)
      (number_of key.prime_1) (number_of key.prime_2) e_is d_is refl refl right.pair;
}

root-at : (key : RsaPrivateKey) (primes : Option Primes) (n e d m : ℕ) → n ≡ number_of key.modulus → e ≡ number_of key.public_exponent → d ≡ number_of key.private_exponent
    → IsRightKey key → ArePrimesIn key primes → root_of primes n d m ≡ m ^ d % n
root-at key (Some primes) n e d m n_is e_is d_is right h = second-root key primes h.0 h.1 h.2 n e d m n_is e_is d_is right
root-at key None n e d m n_is e_is d_is right h = refl

module _ (own : OwnKey) (key : RsaPrivateKey) (is : IsOwnKeyOf key own) (right : IsRightKey key) where
  modulus-is : own.private.public.modulus.value ≡ number_of key.modulus
  modulus-is = own.value ∙ ap (λ (public : RsaPublicKey). number_of public.modulus) is.public

  exponent-is : own.private.public.exponent ≡ number_of key.public_exponent
  exponent-is = own.exponent ∙ ap (λ (public : RsaPublicKey). number_of public.public_exponent) is.public

  private-is : os2ip own.private.exponent.items ≡ number_of key.private_exponent
  private-is = ap (λ octets. os2ip octets) is.exponent

  len-is : own.private.public.len ≡ length (unsigned_octets key.modulus)
  len-is = own.len ∙ ap (λ (public : RsaPublicKey). length (unsigned_octets public.modulus)) is.public

  pub right-own : IsRight own.private
  right-own =
      right-at key own.private.primes own.private.public.modulus.value own.private.public.exponent (os2ip own.private.exponent.items)
      modulus-is exponent-is private-is right is.primes

  signature-is : (text : Bytes) → signature_of own.private Sha256 text ≡ signature_by key text
  signature-is text =
      ap (λ root. i2osp own.private.public.len root)
      (root-at key own.private.primes own.private.public.modulus.value own.private.public.exponent (os2ip own.private.exponent.items)
      (os2ip (encoded own.private.public.len Sha256 text)) modulus-is exponent-is private-is right is.primes)
      ∙ (λ i. i2osp (len-is i) (os2ip (encoded (len-is i) Sha256 text) ^ private-is i % modulus-is i))

  pub own-signs : (text : Bytes) → signed_by_own own text ≡ Some (signed_by own.algorithm (signature_by key text))
  own-signs text =
      ap (λ signature. option_map (λ octets. signed_by own.algorithm octets) signature)
      (right-signs own.private Sha256 text right-own ∙ ap (λ octets. Some octets) (signature-is text))

-- A right key signs, and its signature verifies (RFC 8017, section 8.2).
use Rattle.std.proofs.Common.{◌≡◌, ℕ, ◌^◌, ◌%◌, ◌<◌, Bool, true, ◌&&◌, nat_eq, nat_lt, cond, List, length, Option, Some, None, ap, ◌∙◌, arith}
use Rattle.std.proofs.Math.Nat.{mod-lt}
use Rattle.std.proofs.lemmas.Bool.{lt-ltb}
use Rattle.std.proofs.lemmas.Bool.Decides.{Decides-eqb}
use Rattle.std.proofs.lemmas.Slice.Eq.{bytes_eq-Decides}
use Rattle.modular_arithmetic.specs.Naturals.{i2osp, os2ip}
use Rattle.modular_arithmetic.proofs.OctetSteps.{os2ip-i2osp}
use Rattle.public_key_cryptography.specs.Pkcs1.{encoded, private_root, recovered, signature_of, signed, verifies}
use Rattle.public_key_cryptography.specs.Primes.{root_of}
use Rattle.public_key_cryptography.specs.RightKeys.{AreRight, IsRight}
use Rattle.public_key_cryptography.specs.declared.hash.HashFunction.{HashFunction}
use Rattle.public_key_cryptography.specs.declared.private_key.PrivateKey.{PrivateKey}
use Rattle.public_key_cryptography.specs.declared.public_key.PublicKey.{PublicKey}
use Rattle.public_key_cryptography.specs.declared.rsa_primes.Primes.{Primes}
use Rattle.public_key_cryptography.proofs.Encoded.{encoded-back, encoded-below, length-i2osp}
use Rattle.public_key_cryptography.proofs.RsaRoots.{exponent_back, primes_back}

root-below : (primes : Option Primes) (n d m : ℕ) → 0 < n → root_of primes n d m < n
root-below (Some primes) n d m some = mod-lt _ some
root-below None n d m some = mod-lt (m ^ d) some

-- the public operation takes a right key's private one back
root-back : (primes : Option Primes) (n e d m : ℕ) → AreRight primes n e d → m < n → root_of primes n d m ^ e % n ≡ m
root-back (Some primes) n e d m right less =
    primes_back n e primes.first.modulus.value primes.second.modulus.value
    (os2ip primes.first.exponent.items) (os2ip primes.second.exponent.items) (os2ip primes.coefficient.items) m right less
root-back None n e d m right less = exponent_back n e d m right less

all_three : (a b c : Bool) → a ≡ true → b ≡ true → c ≡ true → (a && b && c) ≡ true
all_three a b c p q r = ap (λ t. t && b && c) p ∙ ap (λ t. t && c) q ∙ r

-- a number below the modulus verifies where its power is the encoded message
by-power : (key : PublicKey) (hash : HashFunction) (message : List ℕ) (root : ℕ) → root < key.modulus.value
    → root ^ key.exponent % key.modulus.value ≡ os2ip (encoded key.len hash message) → verifies key hash message (i2osp key.len root) ≡ true
unfolding verifies
by-power key hash message root less back =
    let n : ℕ = key.modulus.value in
    let number : os2ip (i2osp key.len root) ≡ root = os2ip-i2osp key.len root (omega (arith, key.fits)) in
    let long : nat_eq (length (i2osp key.len root)) key.len ≡ true = (Decides-eqb (length (i2osp key.len root)) key.len).1 (length-i2osp key.len root) in
    let below : nat_lt (os2ip (i2osp key.len root)) n ≡ true = ap (λ k. nat_lt k n) number ∙ lt-ltb root n less in
    let is : recovered key (i2osp key.len root) ≡ encoded key.len hash message =
    ap (λ k. i2osp key.len (k ^ key.exponent % n)) number ∙ ap (λ k. i2osp key.len k) back ∙ encoded-back key.len hash message key.least in
    all_three _ _ _ long below ((bytes_eq-Decides (recovered key (i2osp key.len root)) (encoded key.len hash message)).1 is)

-- what a right key signs verifies
pub right-verifies : (key : PrivateKey) (hash : HashFunction) (message : List ℕ) → IsRight key → verifies key.public hash message (signature_of key hash message) ≡ true
right-verifies key hash message right =
    let n : ℕ = key.public.modulus.value in
    let m : ℕ = os2ip (encoded key.public.len hash message) in
    let less : m < n = omega (arith, encoded-below key.public.len hash message key.public.least, key.public.high) in
    by-power key.public hash message (private_root key m) (root-below key.primes n (os2ip key.exponent.items) m (omega (arith, less)))
    (root-back key.primes n key.public.exponent (os2ip key.exponent.items) m right less)

-- so it signs each message
pub right-signs : (key : PrivateKey) (hash : HashFunction) (message : List ℕ) → IsRight key → signed key hash message ≡ Some (signature_of key hash message)
right-signs key hash message right = ap (λ b. cond b (Some (signature_of key hash message)) None) (right-verifies key hash message right)

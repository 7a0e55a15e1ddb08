-- What is signed is octets, and a number below the modulus.
use Rattle.std.proofs.Common.{◌≡◌, ℕ, suc, ◌+◌, ◌-◌, ◌*◌, ◌/◌, ◌%◌, ◌^◌, ◌<◌, ◌≤◌, Bool, true, ◌&&◌, nat_lt, ltb, List, [], ◌∷◌, ◌++◌, length, get_or, take, replicate, refl, sym, ap, ◌∙◌, arith, add-one}
use Prim.Native.Nat.{zero}
use Rattle.std.specs.Int.{bytes_high_first, to_be_bytes, w32, w64}
use Rattle.std.specs.Int.Digits.{AllBelowBase}
use Rattle.std.specs.Prelude.{slice_index}
use Rattle.std.proofs.lemmas.Bool.{and_parts}
use Rattle.std.proofs.lemmas.Bool.Decides.{nat_tests}
use Rattle.std.proofs.lemmas.Int.Digits as digits
use Rattle.std.proofs.lemmas.List.{length-append, length-replicate, take_all, take_more}
use Rattle.std.proofs.lemmas.Nat.{div-mul-add, mod-mul-add}
use Rattle.modular_arithmetic.specs.Naturals.{i2osp, os2ip}
use Rattle.modular_arithmetic.proofs.OctetSteps.{number-begins}
use Rattle.sha1.specs.Sha1.{sha1}
use Rattle.sha1.specs.Sha1 as S1
use Rattle.sha2.specs.Sha256.{sha256}
use Rattle.sha2.specs.Sha256 as S256
use Rattle.sha2.specs.Sha512.{sha384, sha512}
use Rattle.sha2.specs.Sha512 as S512
use Rattle.sha2.proofs.Facts256.{length-sha256}
use Rattle.sha2.proofs.Facts512.{length-sha384, length-sha512}
use Rattle.public_key_cryptography.specs.Pkcs1.{digest_info, digest_of, encoded, padded}
use Rattle.public_key_cryptography.specs.declared.hash.HashFunction.{HashFunction}
use Rattle.public_key_cryptography.specs.declared.hash.HashFunction.TheVariants.{Sha1, Sha256, Sha384, Sha512}

-- each element is an octet
abbrev pub AreOctets : List ℕ → Type 0
AreOctets xs = AllBelowBase 256 xs

octets-append : (xs ys : List ℕ) → AreOctets xs → AreOctets ys → AreOctets (xs ++ ys)
octets-append [] ys p q = q
octets-append (x ∷ xs) ys p q = (p.0, octets-append xs ys p.1 q)

octets-take : (n : ℕ) (xs : List ℕ) → AreOctets xs → AreOctets (take n xs)
octets-take zero xs p = tt
octets-take (suc n) [] p = tt
octets-take (suc n) (x ∷ xs) p = (p.0, octets-take n xs p.1)

octets-replicate : (n x : ℕ) → x < 256 → AreOctets (replicate n x)
octets-replicate zero x small = tt
octets-replicate (suc n) x small = (small, octets-replicate n x small)

octet-at : (xs : List ℕ) (k : ℕ) → AreOctets xs → get_or xs k 0 < 256
octet-at [] k p = let small : 0 < 256 = omega arith in small
octet-at (x ∷ xs) zero p = p.0
octet-at (x ∷ xs) (suc k) p = octet-at xs k p.1

are_octets : List ℕ → Bool
are_octets [] = true
are_octets (x ∷ xs) = nat_lt x 256 && are_octets xs

small_octet : (x : ℕ) → ltb x 256 ≡ true → x < 256
small_octet x e = grind (arith, nat_tests)

octets-tested : (xs : List ℕ) → are_octets xs ≡ true → AreOctets xs
unfolding are_octets
octets-tested [] e = tt
octets-tested (x ∷ xs) e = let parts = and_parts (nat_lt x 256) (are_octets xs) e in (small_octet x parts.0, octets-tested xs parts.1)

-- ---- a number back to its octets

pub length-i2osp : (len n : ℕ) → length (i2osp len n) ≡ len
unfolding i2osp
length-i2osp zero n = refl
length-i2osp (suc len) n = length-append (i2osp len (n / 256)) (n % 256 ∷ []) ∙ (let e : length (i2osp len (n / 256)) + 1 ≡ suc len = omega (arith, length-i2osp len (n / 256)) in e)

i2osp-none : (n : ℕ) → i2osp 0 n ≡ []
unfolding i2osp
i2osp-none n = refl

i2osp-more : (len n : ℕ) → i2osp (suc len) n ≡ i2osp len (n / 256) ++ n % 256 ∷ []
unfolding i2osp
i2osp-more len n = refl

front : (xs : List ℕ) (i : ℕ) → AreOctets xs → i ≤ length xs → i2osp i (os2ip (take i xs)) ≡ take i xs
front xs zero small within = i2osp-none (os2ip (take 0 xs))
front xs (suc i) small within =
    let less : i < length xs = omega arith in
    let a : ℕ = os2ip (take i xs) in
    let x : ℕ = get_or xs i 0 in
    let value : os2ip (take (suc i) xs) ≡ a * 256 + x = ap (λ k. os2ip (take k xs)) (sym (add-one i)) ∙ digits.number_more 256 xs i less in
    let upper : (a * 256 + x) / 256 ≡ a = div-mul-add a 256 x (octet-at xs i small) in
    let lowest : (a * 256 + x) % 256 ≡ x = mod-mul-add a 256 x (octet-at xs i small) in
    i2osp-more i (os2ip (take (suc i) xs))
    ∙ ap (λ n. i2osp i (n / 256) ++ n % 256 ∷ []) value
    ∙ (λ j. i2osp i (upper j) ++ lowest j ∷ [])
    ∙ ap (λ ys. ys ++ x ∷ []) (front xs i small (let f : i ≤ length xs = omega arith in f))
    ∙ sym (take_more xs i 0 less) ∙ ap (λ k. take k xs) (add-one i)

-- octets are those of their number
pub i2osp-os2ip : (len : ℕ) (xs : List ℕ) → length xs ≡ len → AreOctets xs → i2osp len (os2ip xs) ≡ xs
i2osp-os2ip len xs long small =
    let all : take len xs ≡ xs = take_all len xs (omega arith) in
    sym (ap (λ ys. i2osp len (os2ip ys)) all) ∙ front xs len small (omega arith) ∙ all

-- octets of which the first is zero
pub below-first : (len : ℕ) (xs : List ℕ) → length xs ≡ len → 0 < len → get_or xs 0 0 ≡ 0 → AreOctets xs → os2ip xs < 256 ^ (len - 1)
below-first len [] long some first small = absurd (omega (arith, long))
below-first len (x ∷ xs) long some first small =
    let rest : 256 ^ length xs ≡ 256 ^ (len - 1) = ap (λ k. 256 ^ k) (let f : length xs ≡ len - 1 = omega (arith, long) in f) in
    omega (arith, number-begins 256 x xs, ap (λ k. k * 256 ^ length xs) first, digits.number_lt 256 xs small.1, rest)

-- ---- the encoded message

number-octets : (k n : ℕ) → AreOctets (bytes_high_first k n)
number-octets zero n = tt
number-octets (suc zero) n = (omega arith, tt)
number-octets (suc (suc k)) n = (omega arith, number-octets (suc k) n)

words_256 : (h : List ℕ) (n : ℕ) → AreOctets (S256.digest_bytes h n)
unfolding S256.digest_bytes
words_256 h zero = tt
words_256 h (suc n) = octets-append (S256.digest_bytes h n) (to_be_bytes w32 (slice_index h n)) (words_256 h n) (number-octets 4 (slice_index h n))

words_512 : (h : List ℕ) (n : ℕ) → AreOctets (S512.digest_bytes h n)
unfolding S512.digest_bytes
words_512 h zero = tt
words_512 h (suc n) = octets-append (S512.digest_bytes h n) (to_be_bytes w64 (slice_index h n)) (words_512 h n) (number-octets 8 (slice_index h n))

words_1 : (h : List ℕ) (n : ℕ) → AreOctets (S1.digest_bytes h n)
unfolding S1.digest_bytes
words_1 h zero = tt
words_1 h (suc n) = octets-append (S1.digest_bytes h n) (to_be_bytes w32 (slice_index h n)) (words_1 h n) (number-octets 4 (slice_index h n))

length-digest_1 : (h : List ℕ) (n : ℕ) → length (S1.digest_bytes h n) ≡ 4 * n
unfolding S1.digest_bytes
length-digest_1 h zero = refl
length-digest_1 h (suc n) = omega (arith, length-append (S1.digest_bytes h n) (to_be_bytes w32 (slice_index h n)), length-digest_1 h n)

length-sha1 : (message : List ℕ) → length (sha1 message) ≡ 20
unfolding sha1
length-sha1 message = length-digest_1 _ 5

digest-octets : (hash : HashFunction) (message : List ℕ) → AreOctets (digest_of hash message)
unfolding sha1 sha256 sha384 sha512
digest-octets Sha256 message = words_256 _ 8
digest-octets Sha384 message = octets-take 48 (S512.digest_bytes _ 8) (words_512 _ 8)
digest-octets Sha512 message = words_512 _ 8
digest-octets Sha1 message = words_1 _ 5

digest-short : (hash : HashFunction) (message : List ℕ) → length (digest_of hash message) ≤ 64
digest-short Sha256 message = omega (arith, length-sha256 message)
digest-short Sha384 message = omega (arith, length-sha384 message)
digest-short Sha512 message = omega (arith, length-sha512 message)
digest-short Sha1 message = omega (arith, length-sha1 message)

ahead-octets : (hash : HashFunction) → AreOctets (0 ∷ digest_info hash)
unfolding are_octets
ahead-octets Sha256 = octets-tested (0 ∷ digest_info Sha256) refl
ahead-octets Sha384 = octets-tested (0 ∷ digest_info Sha384) refl
ahead-octets Sha512 = octets-tested (0 ∷ digest_info Sha512) refl
ahead-octets Sha1 = octets-tested (0 ∷ digest_info Sha1) refl

ahead-short : (hash : HashFunction) → length (0 ∷ digest_info hash) ≤ 20
ahead-short Sha256 = omega arith
ahead-short Sha384 = omega arith
ahead-short Sha512 = omega arith
ahead-short Sha1 = omega arith

padded-long : (len : ℕ) (ahead digest : List ℕ) → length ahead + length digest + 2 ≤ len → length (padded len ahead digest) ≡ len
padded-long len ahead digest fits =
    let rest : ℕ = len - (length ahead + length digest) - 2 in
    omega (arith, length-append (replicate rest 255 ++ ahead) digest, length-append (replicate rest 255) ahead, length-replicate {A = ℕ} rest 255)

padded-octets : (len : ℕ) (ahead digest : List ℕ) → AreOctets ahead → AreOctets digest → AreOctets (padded len ahead digest)
padded-octets len ahead digest p q =
    let rest : ℕ = len - (length ahead + length digest) - 2 in
    let filling : AreOctets (replicate rest 255) = octets-replicate rest 255 (omega arith) in
    (omega arith, (omega arith, octets-append (replicate rest 255 ++ ahead) digest (octets-append (replicate rest 255) ahead filling p) q))

pub encoded-long : (len : ℕ) (hash : HashFunction) (message : List ℕ) → 256 ≤ len → length (encoded len hash message) ≡ len
unfolding encoded
encoded-long len hash message least =
    padded-long len (0 ∷ digest_info hash) (digest_of hash message) (omega (arith, ahead-short hash, digest-short hash message))

pub encoded-octets : (len : ℕ) (hash : HashFunction) (message : List ℕ) → AreOctets (encoded len hash message)
unfolding encoded
encoded-octets len hash message = padded-octets len (0 ∷ digest_info hash) (digest_of hash message) (ahead-octets hash) (digest-octets hash message)

encoded-first : (len : ℕ) (hash : HashFunction) (message : List ℕ) → get_or (encoded len hash message) 0 0 ≡ 0
unfolding encoded
encoded-first len hash message = refl

-- the encoded message is a number below each modulus of its length
pub encoded-below : (len : ℕ) (hash : HashFunction) (message : List ℕ) → 256 ≤ len → os2ip (encoded len hash message) < 256 ^ (len - 1)
encoded-below len hash message least =
    below-first len (encoded len hash message) (encoded-long len hash message least) (omega arith) (encoded-first len hash message) (encoded-octets len hash message)

pub encoded-back : (len : ℕ) (hash : HashFunction) (message : List ℕ) → 256 ≤ len → i2osp len (os2ip (encoded len hash message)) ≡ encoded len hash message
encoded-back len hash message least = i2osp-os2ip len (encoded len hash message) (encoded-long len hash message least) (encoded-octets len hash message)

-- Two sides come to one secret.
use Rattle.std.proofs.Common.{◌≡◌, ℕ, ◌+◌, ◌*◌, ◌^◌, ◌%◌, ◌<◌, Bool, true, cond, ltb, leb, ◌&&◌, List, length, get_or, Some, None, refl, sym, ap, ◌∙◌, arith}
use Rattle.std.proofs.Math.Nat.{mod-lt, mul_comm}
use Rattle.std.proofs.lemmas.Bool.Decides.{nat_tests}
use Rattle.std.proofs.lemmas.Int.Digits as digits
use Rattle.std.proofs.lemmas.Nat.{pow-mod}
use Rattle.modular_arithmetic.specs.Naturals.{i2osp, os2ip}
use Rattle.modular_arithmetic.specs.Refusals.{refusal_of}
use Rattle.modular_arithmetic.proofs.Forms.{power-mul}
use Rattle.modular_arithmetic.proofs.OctetSteps.{all-below, os2ip-i2osp}
use Rattle.public_key_cryptography.specs.declared.group.Group.{Group}
use Rattle.public_key_cryptography.specs.declared.group.Group.TheVariants.{Modp1024, Modp2048, Modp4096}
use Rattle.public_key_cryptography.specs.Agreements.{in_range, octets_of, prime_of, public_of, shared_of, size_of}

pub never_refused : (group : Group) → refusal_of (octets_of group) ≡ None
unfolding refusal_of
never_refused Modp1024 = refl
never_refused Modp2048 = refl
never_refused Modp4096 = refl

pub sized : (group : Group) → length (octets_of group) ≡ size_of group
sized Modp1024 = refl
sized Modp2048 = refl
sized Modp4096 = refl

-- a power of a power
power-twice : (p a b : ℕ) → (2 ^ a % p) ^ b % p ≡ 2 ^ (a * b) % p
power-twice p a b = pow-mod (2 ^ a) b p ∙ ap (λ n. n % p) (sym (power-mul 2 a b))

some-prime : (l s v p : ℕ) → (leb l s && (ltb 1 v && ltb (v + 1) p)) ≡ true → 0 < p
some-prime l s v p h = grind (arith, nat_tests)

taken : (b : Bool) (shared : List ℕ) → b ≡ true → cond b (Some shared) None ≡ Some shared
taken b shared h = ap (λ c. cond c (Some shared) None) h

fits-size : (group : Group) → ((k : ℕ) → get_or (octets_of group) k 0 < 256) → prime_of group < 256 ^ size_of group
unfolding prime_of
fits-size group small =
    let below = digits.number_lt 256 (octets_of group) (all-below 256 (octets_of group) small) in
    omega (arith, below, ap (λ k. 256 ^ k) (sized group))

-- the secret of a peer's value is the generator's power by both secrets
shared-is : (group : Group) (ours theirs : List ℕ) → ((k : ℕ) → get_or (octets_of group) k 0 < 256) → in_range group (public_of group theirs) ≡ true → shared_of group (public_of group theirs) ours ≡ Some (i2osp (size_of group) (2 ^ (os2ip theirs * os2ip ours) % prime_of group))
shared-is group ours theirs small inside =
    let p : ℕ = prime_of group in
    let value : ℕ = 2 ^ os2ip theirs % p in
    let some : 0 < p = some-prime (length (public_of group theirs)) (size_of group) (os2ip (public_of group theirs)) p inside in
    let less : value < 256 ^ size_of group = omega (arith, mod-lt (2 ^ os2ip theirs) some, fits-size group small) in
    taken (in_range group (public_of group theirs)) _ inside
    ∙ ap (λ n. Some (i2osp (size_of group) (n ^ os2ip ours % p))) (os2ip-i2osp (size_of group) value less)
    ∙ ap (λ n. Some (i2osp (size_of group) n)) (power-twice p (os2ip theirs) (os2ip ours))

pub one-secret : (group : Group) (ours theirs : List ℕ) → ((k : ℕ) → get_or (octets_of group) k 0 < 256) → in_range group (public_of group ours) ≡ true → in_range group (public_of group theirs) ≡ true → shared_of group (public_of group theirs) ours ≡ shared_of group (public_of group ours) theirs
one-secret group ours theirs small inside theirs_inside =
    shared-is group ours theirs small theirs_inside
    ∙ ap (λ n. Some (i2osp (size_of group) (2 ^ n % prime_of group))) (mul_comm (os2ip theirs) (os2ip ours))
    ∙ sym (shared-is group theirs ours small inside)

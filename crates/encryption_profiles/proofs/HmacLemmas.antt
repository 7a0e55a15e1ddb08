-- Lemmas on the key's block and the code's length
use Rattle.std.proofs.Common.{◌≡◌, ℕ, zero, suc, ◌-◌, ◌*◌, ◌<◌, ◌≤◌, ◌∙◌, get_or, min, nat_lt, true, false, List, ◌++◌, length, take, replicate, refl, arith, tests}
use Rattle.std.proofs.lemmas.List.{append-nil, length-append, take_all, take_min}
use Rattle.std.specs.Int.{w32, to_be_bytes}
use Rattle.std.proofs.Math.Nat.{min_comm}
use Rattle.sha1.specs.Sha1.{digest_bytes, sha1}
use Rattle.encryption_profiles.specs.Hmac.{fitted, hmac_of, key_block}

-- a key no longer than a block is its own, a longer one is hashed
pub key_block-short : (digest : List ℕ → List ℕ) (block : ℕ) (key : List ℕ) → length key ≤ block → fitted block key ≡ key_block digest block key
unfolding key_block
key_block-short digest block key short =
    let e : nat_lt block (length key) ≡ false = search (arith, tests) in rw e refl

pub key_block-long : (digest : List ℕ → List ℕ) (block : ℕ) (key : List ℕ) → block < length key → fitted block (digest key) ≡ key_block digest block key
unfolding key_block
key_block-long digest block key long =
    let e : nat_lt block (length key) ≡ true = search (arith, tests) in rw e refl

-- bytes that fit, and zeros up to n
pub fitted-short : (n i : ℕ) (bytes : List ℕ) → i ≡ length bytes → length bytes ≤ n → take i bytes ++ replicate (n - i) 0 ≡ fitted n bytes
fitted-short n i bytes end short = rw (end, take_all (length bytes) bytes (omega arith), take_all n bytes short) refl

-- a vector of the code, resized to n bytes
pub fitted_from_parts : (n k len : ℕ) (key payload mac made out : List ℕ) → k ≡ min (length key) 64
    → mac ≡ hmac_of sha1 64 (take k key) payload → made ≡ mac → len ≡ length mac
    → out ≡ take n made ++ replicate (n - len) 0 → out ≡ fitted n (hmac_of sha1 64 (take 64 key) payload)
fitted_from_parts n k len key payload mac made out shortest code same long out_is =
    let kept : take k key ≡ take 64 key = rw (shortest, min_comm) (take_min 64 key) in
    rw (same, long, code, kept) at out_is

-- a code has 20 bytes
length-digest_bytes : (h : List ℕ) (n : ℕ) → length (digest_bytes h n) ≡ 4 * n
unfolding digest_bytes
length-digest_bytes h zero = refl
length-digest_bytes h (suc n) = length-append (digest_bytes h n) (to_be_bytes w32 (get_or h n 0)) ∙ omega (arith, length-digest_bytes h n)

pub length-hmac_of : (block : ℕ) (key message : List ℕ) → length (hmac_of sha1 block key message) ≡ 20
unfolding hmac_of sha1
length-hmac_of block key message = length-digest_bytes _ 5

-- if both are short, nothing of the key is cut and nothing is padded
pub fitted-cut : (n : ℕ) (key payload out : List ℕ) → out ≡ fitted n (hmac_of sha1 64 (take 64 key) payload) → length key ≤ 64 → n ≤ 20
    → out ≡ take n (hmac_of sha1 64 key payload)
fitted-cut n key payload out is short cut =
    let none : n - length (hmac_of sha1 64 key payload) ≡ 0 = omega (arith, length-hmac_of 64 key payload) in
    rw (take_all 64 key short, none, append-nil) at is

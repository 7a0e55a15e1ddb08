-- Iterated ciphers as a chain over zeros.
use Rattle.std.proofs.Common.{◌≡◌, ◌<◌, ◌-◌, ◌*◌, ℕ, suc, List, ◌++◌, length, take, drop, replicate, sym, ap, ◌∙◌, codes, arith, lit<}
use Rattle.std.proofs.lemmas.List.{append_assoc, append-nil, drop-drop, drop_at, length-append, length-drop, length-replicate, length-take-le, take_all, take_at}
use Rattle.block_ciphers.specs.Bytes.{sum_of_bytes}
use Rattle.block_ciphers.specs.Chains.{IsChained, before, block_at}
use Rattle.block_ciphers.proofs.Blocks.{in_parts, sum_of_bytes-comm, sum_of_bytes-zeros}
use Rattle.encryption_profiles.specs.NFold.{n_fold_of}
use Rattle.encryption_profiles.specs.Derivation.{derived_octets_of, iterated_ciphers}
use Rattle.block_ciphers.specs.Des.{triple_des_cipher}
use Rattle.block_ciphers.specs.Seeds.{random_to_key}
use Rattle.encryption_profiles.specs.Des3Derivation.{des3_derived_key_of, des3_password_key_of}

-- a block with two blocks of zeros behind it, and its chain
module _ (E : List ℕ → List ℕ) (x c : List ℕ) (sized : length x ≡ 8) (chained : IsChained 8 E (x ++ replicate 16 0) c) where
  length-text : length (x ++ replicate 16 0) ≡ 24
  length-text = omega (arith, length-append x (replicate 16 0), sized, length-replicate {A = ℕ} 16 0)

  length-chain : length c ≡ 24
  length-chain = chained.same_length ∙ length-text

  -- the first block is the block's cipher
  first : take 8 c ≡ E x
  unfolding before
  first =
      let front : take 8 (x ++ replicate 16 0) ≡ x = take_at x (replicate 16 0) 8 sized in
      chained.each 0 (omega (arith, length-text)) ∙ ap E (ap (λ (b : List ℕ). sum_of_bytes 8 b (replicate 8 0)) front ∙ sum_of_bytes-zeros 8 x sized)

  -- each further one is the cipher of the one before
  follows : (i : ℕ) → i < 2 → block_at 8 (x ++ replicate 16 0) (suc i) ≡ replicate 8 0 → block_at 8 c (suc i) ≡ E (block_at 8 c i)
  unfolding before
  follows i few zeros =
      let last : length (block_at 8 c i) ≡ 8 = length-take-le 8 (drop (8 * i) c) (omega (arith, length-drop (8 * i) c, length-chain)) in
      chained.each (suc i) (omega (arith, length-text))
      ∙ ap E (ap (λ (b : List ℕ). sum_of_bytes 8 b (block_at 8 c i)) zeros ∙ sum_of_bytes-comm 8 (replicate 8 0) (block_at 8 c i) ∙ sum_of_bytes-zeros 8 (block_at 8 c i) last)

  second_text : block_at 8 (x ++ replicate 16 0) 1 ≡ replicate 8 0
  second_text = ap (take 8) (drop_at x (replicate 16 0) 8 sized)

  third_text : block_at 8 (x ++ replicate 16 0) 2 ≡ replicate 8 0
  third_text = ap (take 8) (sym (drop-drop 8 8 (x ++ replicate 16 0)) ∙ ap (drop 8) (drop_at x (replicate 16 0) 8 sized))

  chained_iterates : c ≡ iterated_ciphers E x 3
  unfolding iterated_ciphers
  chained_iterates =
      let second : block_at 8 c 1 ≡ E (E x) = follows 0 (lit< tt) second_text ∙ ap E first in
      let third : block_at 8 c 2 ≡ E (E (E x)) = follows 1 (lit< tt) third_text ∙ ap E second in
      in_parts 8 1 c length-chain
      ∙ ap (λ (s : List ℕ). s ++ block_at 8 c 1 ++ block_at 8 c 2) first
      ∙ ap (λ (s : List ℕ). E x ++ s ++ block_at 8 c 2) second
      ∙ ap (λ (s : List ℕ). E x ++ E (E x) ++ s) third
      ∙ append_assoc (E x) (E (E x)) (E (E (E x)))
      ∙ ap (λ (s : List ℕ). E x ++ (E (E x) ++ s)) (sym (append-nil (E (E (E x)))))

-- DR, as the code makes it
pub octets_from_parts :
    (E : List ℕ → List ℕ) (constant folded : List ℕ) (len : ℕ) (start chain out : List ℕ) → folded ≡ n_fold_of constant 64 → 8 * len ≡ 64 → len ≡ length folded → start ≡ take 24 folded ++ replicate (24 - len) 0 → IsChained 8 E start chain → out ≡ take 21 chain
    → out ≡ derived_octets_of E 8 21 constant
unfolding derived_octets_of
octets_from_parts E constant folded len start chain out is eight own filled chained cut =
    let sized : length folded ≡ 8 = omega (arith, eight, own) in
    let missing : 24 - len ≡ 16 = omega (arith, eight) in
    let text : start ≡ folded ++ replicate 16 0 = filled ∙ ap (λ (k : ℕ). take 24 folded ++ replicate k 0) missing ∙ ap (λ (s : List ℕ). s ++ replicate 16 0) (take_all 24 folded (omega (arith, sized))) in
    cut ∙ ap (take 21) (chained_iterates E folded chain sized (rw text at chained) ∙ ap (λ (s : List ℕ). iterated_ciphers E s 3) is)

-- DK
pub key_from_octets : (key constant octets out : List ℕ) → octets ≡ derived_octets_of (triple_des_cipher key) 8 21 constant → out ≡ random_to_key octets → out ≡ des3_derived_key_of key constant
unfolding des3_derived_key_of
key_from_octets key constant octets out derived made = made ∙ ap random_to_key derived

-- the fold, the key made of it, and the derivation
pub password_key_from_parts :
    (password salt secret seed key out : List ℕ) → secret ≡ password ++ salt → seed ≡ n_fold_of secret 168 → key ≡ random_to_key seed → out ≡ des3_derived_key_of key (codes "kerberos")
    → out ≡ des3_password_key_of password salt
unfolding des3_password_key_of
password_key_from_parts password salt secret seed key out joined folded made derived =
    derived ∙ ap (λ (k : List ℕ). des3_derived_key_of k (codes "kerberos")) (made ∙ ap random_to_key (folded ∙ ap (λ (s : List ℕ). n_fold_of s 168) joined))

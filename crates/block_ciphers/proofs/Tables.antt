-- What the code's tables hold is what FIPS 197 defines, shown for each of the 256 bytes.
use Rattle.std.proofs.Common.{◌≡◌, ◌==◌, ◌<◌, ◌+◌, ◌-◌, ◌%◌, ℕ, true, List, Bool, slice_index, nat_lt, refl, sym, ap, ◌∙◌}
use Rattle.std.specs.Int.{w32, to_be_bytes}
use Rattle.std.proofs.lemmas.Bool.{ltb-true, eqb-true}
use Rattle.block_ciphers.specs.Field.{field_product, product_below, remainder, inverse, inverse_below, of_bits, affine, sub_byte, inv_affine, inv_sub_byte}
use Rattle.block_ciphers.specs.Aes.{mixing, unmixing}
use Rattle.block_ciphers.specs.declared.aes.bytes.TheConstants.{SUBSTITUTION, INVERSE_SUBSTITUTION}
use Rattle.block_ciphers.specs.declared.aes.mixing.TheConstants.{MIXED_0, MIXED_1, MIXED_2, MIXED_3, UNMIXED_0, UNMIXED_1, UNMIXED_2, UNMIXED_3}
use Rattle.block_ciphers.proofs.AllBytes.{all_below, all_below_at, same_at_byte}

substitution_table : all_below (λ x. slice_index SUBSTITUTION x == sub_byte x) 256 ≡ true
unfolding all_below field_product product_below remainder inverse inverse_below of_bits affine sub_byte
substitution_table = refl

inverse_table : all_below (λ x. slice_index INVERSE_SUBSTITUTION x == inv_sub_byte x) 256 ≡ true
unfolding all_below field_product product_below remainder inverse inverse_below of_bits inv_affine inv_sub_byte
inverse_table = refl

-- the tables of the code are the two substitutions
pub substituted : (b : ℕ) → b < 256 → slice_index SUBSTITUTION b ≡ sub_byte b
substituted = same_at_byte (λ x. slice_index SUBSTITUTION x) sub_byte substitution_table

pub inv_substituted : (b : ℕ) → b < 256 → slice_index INVERSE_SUBSTITUTION b ≡ inv_sub_byte b
inv_substituted = same_at_byte (λ x. slice_index INVERSE_SUBSTITUTION x) inv_sub_byte inverse_table

small_substitution : all_below (λ x. nat_lt (slice_index SUBSTITUTION x) 256) 256 ≡ true
unfolding all_below
small_substitution = refl

small_inverse : all_below (λ x. nat_lt (slice_index INVERSE_SUBSTITUTION x) 256) 256 ≡ true
unfolding all_below
small_inverse = refl

there_and_back : all_below (λ x. slice_index INVERSE_SUBSTITUTION (slice_index SUBSTITUTION x) == x) 256 ≡ true
unfolding all_below
there_and_back = refl

back_and_there : all_below (λ x. slice_index SUBSTITUTION (slice_index INVERSE_SUBSTITUTION x) == x) 256 ≡ true
unfolding all_below
back_and_there = refl

pub sub_byte-lt : (b : ℕ) → b < 256 → sub_byte b < 256
sub_byte-lt b small = rw (substituted b small) at (ltb-true _ _ (all_below_at (λ x. nat_lt (slice_index SUBSTITUTION x) 256) 256 b small_substitution small))

pub inv_sub_byte-lt : (b : ℕ) → b < 256 → inv_sub_byte b < 256
inv_sub_byte-lt b small = rw (inv_substituted b small) at (ltb-true _ _ (all_below_at (λ x. nat_lt (slice_index INVERSE_SUBSTITUTION x) 256) 256 b small_inverse small))

-- the two substitutions undo each other
pub inv_sub_byte-sub_byte : (b : ℕ) → b < 256 → inv_sub_byte (sub_byte b) ≡ b
inv_sub_byte-sub_byte b small =
    sym (inv_substituted (sub_byte b) (sub_byte-lt b small)) ∙ ap (λ (x : ℕ). slice_index INVERSE_SUBSTITUTION x) (sym (substituted b small))
    ∙ same_at_byte (λ x. slice_index INVERSE_SUBSTITUTION (slice_index SUBSTITUTION x)) (λ x. x) there_and_back b small

pub sub_byte-inv_sub_byte : (b : ℕ) → b < 256 → sub_byte (inv_sub_byte b) ≡ b
sub_byte-inv_sub_byte b small =
    sym (substituted (inv_sub_byte b) (inv_sub_byte-lt b small)) ∙ ap (λ (x : ℕ). slice_index SUBSTITUTION x) (sym (inv_substituted b small))
    ∙ same_at_byte (λ x. slice_index SUBSTITUTION (slice_index INVERSE_SUBSTITUTION x)) (λ x. x) back_and_there b small

small_products : all_below (λ a. all_below (λ x. nat_lt (field_product a x) 256) 256) 16 ≡ true
unfolding all_below field_product product_below remainder
small_products = refl

-- products with small constants are bytes
pub product_small : (a x : ℕ) → a < 16 → x < 256 → field_product a x < 256
product_small a x ha hx =
    ltb-true _ _ (all_below_at (λ x. nat_lt (field_product a x) 256) 256 x (all_below_at (λ a. all_below (λ x. nat_lt (field_product a x) 256) 256) 16 a small_products ha) hx)

-- the table holds, for each byte x, the column that the byte of `box` at x makes in place j of a product with a
is_table : List ℕ → List ℕ → ℕ → List ℕ → Bool
is_table a box j table =
    all_below (λ r. all_below (λ x. slice_index (to_be_bytes w32 (slice_index table x)) r == field_product (slice_index a ((r + 4 - j) % 4)) (slice_index box x)) 256) 4

mixed_table_0 : is_table mixing SUBSTITUTION 0 MIXED_0 ≡ true
unfolding is_table all_below field_product product_below remainder
mixed_table_0 = refl

mixed_table_1 : is_table mixing SUBSTITUTION 1 MIXED_1 ≡ true
unfolding is_table all_below field_product product_below remainder
mixed_table_1 = refl

mixed_table_2 : is_table mixing SUBSTITUTION 2 MIXED_2 ≡ true
unfolding is_table all_below field_product product_below remainder
mixed_table_2 = refl

mixed_table_3 : is_table mixing SUBSTITUTION 3 MIXED_3 ≡ true
unfolding is_table all_below field_product product_below remainder
mixed_table_3 = refl

unmixed_table_0 : is_table unmixing INVERSE_SUBSTITUTION 0 UNMIXED_0 ≡ true
unfolding is_table all_below field_product product_below remainder
unmixed_table_0 = refl

unmixed_table_1 : is_table unmixing INVERSE_SUBSTITUTION 1 UNMIXED_1 ≡ true
unfolding is_table all_below field_product product_below remainder
unmixed_table_1 = refl

unmixed_table_2 : is_table unmixing INVERSE_SUBSTITUTION 2 UNMIXED_2 ≡ true
unfolding is_table all_below field_product product_below remainder
unmixed_table_2 = refl

unmixed_table_3 : is_table unmixing INVERSE_SUBSTITUTION 3 UNMIXED_3 ≡ true
unfolding is_table all_below field_product product_below remainder
unmixed_table_3 = refl

-- byte r of a word of such a table
in_table : (a box table : List ℕ) (j : ℕ) → is_table a box j table ≡ true → (r x : ℕ) → r < 4 → x < 256
    → slice_index (to_be_bytes w32 (slice_index table x)) r ≡ field_product (slice_index a ((r + 4 - j) % 4)) (slice_index box x)
unfolding is_table
in_table a box table j test r x hr hx =
    let rows = λ (r : ℕ). all_below (λ x. slice_index (to_be_bytes w32 (slice_index table x)) r == field_product (slice_index a ((r + 4 - j) % 4)) (slice_index box x)) 256 in
    eqb-true _ _ (all_below_at (λ x. slice_index (to_be_bytes w32 (slice_index table x)) r == field_product (slice_index a ((r + 4 - j) % 4)) (slice_index box x)) 256 x (all_below_at rows 4 r test hr) hx)

pub mixed_0 : (r x : ℕ) → r < 4 → x < 256 → slice_index (to_be_bytes w32 (slice_index MIXED_0 x)) r ≡ field_product (slice_index mixing ((r + 4 - 0) % 4)) (sub_byte x)
mixed_0 r x hr hx = in_table mixing SUBSTITUTION MIXED_0 0 mixed_table_0 r x hr hx ∙ ap (field_product (slice_index mixing ((r + 4 - 0) % 4))) (substituted x hx)

pub mixed_1 : (r x : ℕ) → r < 4 → x < 256 → slice_index (to_be_bytes w32 (slice_index MIXED_1 x)) r ≡ field_product (slice_index mixing ((r + 4 - 1) % 4)) (sub_byte x)
mixed_1 r x hr hx = in_table mixing SUBSTITUTION MIXED_1 1 mixed_table_1 r x hr hx ∙ ap (field_product (slice_index mixing ((r + 4 - 1) % 4))) (substituted x hx)

pub mixed_2 : (r x : ℕ) → r < 4 → x < 256 → slice_index (to_be_bytes w32 (slice_index MIXED_2 x)) r ≡ field_product (slice_index mixing ((r + 4 - 2) % 4)) (sub_byte x)
mixed_2 r x hr hx = in_table mixing SUBSTITUTION MIXED_2 2 mixed_table_2 r x hr hx ∙ ap (field_product (slice_index mixing ((r + 4 - 2) % 4))) (substituted x hx)

pub mixed_3 : (r x : ℕ) → r < 4 → x < 256 → slice_index (to_be_bytes w32 (slice_index MIXED_3 x)) r ≡ field_product (slice_index mixing ((r + 4 - 3) % 4)) (sub_byte x)
mixed_3 r x hr hx = in_table mixing SUBSTITUTION MIXED_3 3 mixed_table_3 r x hr hx ∙ ap (field_product (slice_index mixing ((r + 4 - 3) % 4))) (substituted x hx)

pub unmixed_0 : (r x : ℕ) → r < 4 → x < 256 → slice_index (to_be_bytes w32 (slice_index UNMIXED_0 x)) r ≡ field_product (slice_index unmixing ((r + 4 - 0) % 4)) (inv_sub_byte x)
unmixed_0 r x hr hx = in_table unmixing INVERSE_SUBSTITUTION UNMIXED_0 0 unmixed_table_0 r x hr hx ∙ ap (field_product (slice_index unmixing ((r + 4 - 0) % 4))) (inv_substituted x hx)

pub unmixed_1 : (r x : ℕ) → r < 4 → x < 256 → slice_index (to_be_bytes w32 (slice_index UNMIXED_1 x)) r ≡ field_product (slice_index unmixing ((r + 4 - 1) % 4)) (inv_sub_byte x)
unmixed_1 r x hr hx = in_table unmixing INVERSE_SUBSTITUTION UNMIXED_1 1 unmixed_table_1 r x hr hx ∙ ap (field_product (slice_index unmixing ((r + 4 - 1) % 4))) (inv_substituted x hx)

pub unmixed_2 : (r x : ℕ) → r < 4 → x < 256 → slice_index (to_be_bytes w32 (slice_index UNMIXED_2 x)) r ≡ field_product (slice_index unmixing ((r + 4 - 2) % 4)) (inv_sub_byte x)
unmixed_2 r x hr hx = in_table unmixing INVERSE_SUBSTITUTION UNMIXED_2 2 unmixed_table_2 r x hr hx ∙ ap (field_product (slice_index unmixing ((r + 4 - 2) % 4))) (inv_substituted x hx)

pub unmixed_3 : (r x : ℕ) → r < 4 → x < 256 → slice_index (to_be_bytes w32 (slice_index UNMIXED_3 x)) r ≡ field_product (slice_index unmixing ((r + 4 - 3) % 4)) (inv_sub_byte x)
unmixed_3 r x hr hx = in_table unmixing INVERSE_SUBSTITUTION UNMIXED_3 3 unmixed_table_3 r x hr hx ∙ ap (field_product (slice_index unmixing ((r + 4 - 3) % 4))) (inv_substituted x hx)

-- Keys of triple DES that aren't made of random bits (RFC 3961, section 6.3.1).
use Rattle.std.specs.Prelude.{ℕ, ◌%◌, nat_eq, Bool, ◌&&◌, ◌||◌, List, length, slice_range, count_ones}
use Rattle.std.specs.List.{list_all}
use Rattle.block_ciphers.specs.Seeds.{is_weak}

-- each octet has an odd number of ones
abbrev pub has_odd_parity : List ℕ → Bool
has_odd_parity key = list_all (λ octet. nat_eq (count_ones octet % 2) 1) key

-- a key of three parts, of which one is weak
abbrev pub has_weak_part : List ℕ → Bool
has_weak_part key = nat_eq (length key) 24 && (is_weak (slice_range key 0 8) || is_weak (slice_range key 8 16) || is_weak (slice_range key 16 24))

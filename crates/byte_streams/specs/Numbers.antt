-- Numbers as bytes, the highest first or the lowest first.
use Rattle.std.specs.Prelude.{◌≡◌, ℕ, List, [], ◌∷◌, drop, refl}
use Rattle.byteorder.specs.Endian.{big_bytes, big_number, little_bytes, little_number}

-- two bytes, the highest first
unfoldable pub be16 : ℕ → List ℕ
be16 n = big_bytes 2 n

-- the number that the two bytes at a place are, the highest first
unfoldable pub be16_at : ℕ → List ℕ → ℕ
be16_at place whole = big_number 2 (drop place whole)

-- eight bytes, the highest first
unfoldable pub be64 : ℕ → List ℕ
be64 n = big_bytes 8 n

-- the number that the eight bytes at a place are, the highest first
unfoldable pub be64_at : ℕ → List ℕ → ℕ
be64_at place whole = big_number 8 (drop place whole)

-- four bytes, the lowest first
unfoldable pub le32 : ℕ → List ℕ
le32 n = little_bytes 4 n

-- the number that the four bytes at a place are, the lowest first
unfoldable pub le32_at : ℕ → List ℕ → ℕ
le32_at place whole = little_number 4 (drop place whole)

-- eight bytes, the lowest first
unfoldable pub le64 : ℕ → List ℕ
le64 n = little_bytes 8 n

-- the number that the eight bytes at a place are, the lowest first
unfoldable pub le64_at : ℕ → List ℕ → ℕ
le64_at place whole = little_number 8 (drop place whole)

-- 258 is 1 and 2
be16-example : be16 258 ≡ 1 ∷ 2 ∷ []
unfolding be16
be16-example = refl

le32-example : le32 258 ≡ 2 ∷ 1 ∷ 0 ∷ 0 ∷ []
unfolding le32
le32-example = refl

-- Numbers of four octets, the highest first.
use Rattle.std.specs.Prelude.{◌≡◌, ℕ, List, [], ◌∷◌, drop, refl}
use Rattle.byteorder.specs.Endian.{big_bytes, big_number}

-- four octets, the highest first
unfoldable pub be32 : ℕ → List ℕ
be32 n = big_bytes 4 n

-- the number that the four octets at a place are, the highest first
unfoldable pub be32_at : ℕ → List ℕ → ℕ
be32_at place whole = big_number 4 (drop place whole)

-- 258 is 0, 0, 1 and 2
be32-example : be32 258 ≡ 0 ∷ 0 ∷ 1 ∷ 2 ∷ []
unfolding be32
be32-example = refl

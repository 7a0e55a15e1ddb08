-- The parts of the cipher function of DES, one for each box.
use Rattle.std.specs.Prelude.{ℕ, ◌-◌, ◌*◌, List, ◌++◌, replicate}

-- the four bits of box k, from 0 on, in their place among the 32 of all boxes, where the others put zeros
unfoldable pub placed : ℕ → List ℕ → List ℕ
placed k s = replicate (4 * k) 0 ++ s ++ replicate (28 - 4 * k) 0

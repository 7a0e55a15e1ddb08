-- What a layout obeys: reading finds what is there, and what is written is there.
use Rattle.std.specs.Prelude.{◌≡◌, ℕ, ◌≤◌, ◌<◌, List, ◌++◌, length, Ok}
use Rattle.byte_streams.proofs.NumberLaws.{AreBytes}
use Rattle.negoex_messages.specs.Form.{Layout, IsWithin}

pub record LayoutLaws {V : Type 0} (l : Layout V) : Type 0 where
  pub some : 0 < l.width
  -- what is read is there
  pub found : (v : V) (header whole : List ℕ) → AreBytes header → AreBytes whole → length header ≤ l.width
      → l.read header whole ≡ Ok v → l.IsLaid v header whole
  pub full : (v : V) (header whole : List ℕ) → l.IsLaid v header whole → length header ≡ l.width
  -- what is there is read
  pub given : (v : V) (header whole : List ℕ) → l.Fits v → l.IsLaid v header whole → l.read header whole ≡ Ok v
  pub head_size : (v : V) (o : ℕ) → length (l.head v o) ≡ l.width
  pub body_size : (v : V) (o : ℕ) → length (l.body v o) ≡ l.payload v
  -- what is written is there, the payload at its offset
  pub written : (v : V) (o : ℕ) (front rest : List ℕ) → length front ≡ o → IsWithin o (l.payload v)
      → l.IsLaid v (l.head v o) (front ++ (l.body v o ++ rest))

-- Two fields obey the laws where each does.
use Rattle.std.proofs.Common.{◌≡◌, ℕ, ◌+◌, ◌≤◌, List, ◌++◌, length, take, drop, Ok, refl, ap, sym, subst, ◌∙◌, append_assoc, arith}
use Rattle.std.proofs.lemmas.List.{length-append, length-take, length-drop, take_at, drop_at, get_or-drop}
use Rattle.byte_streams.proofs.NumberLaws.{AreBytes, bytes-cut}
use Rattle.negoex_messages.specs.Form.{Layout, Answer, IsWithin, then_read}
use Rattle.negoex_messages.specs.Laws.{LayoutLaws}
use Rattle.negoex_messages.specs.Pairs.{pair_layout}
use Rattle.negoex_messages.specs.Steps.{then-ok, ok-same}

bytes-drop : (n : ℕ) (header : List ℕ) → AreBytes header → AreBytes (drop n header)
bytes-drop n header bytes i = let below = bytes (n + i) in omega (arith, get_or-drop n header i 0)

pair-found : {A B : Type 0} (a : Layout A) (b : Layout B) → LayoutLaws a → LayoutLaws b → (v : A × B) (header whole : List ℕ)
    → AreBytes header → AreBytes whole → length header ≤ a.width + b.width
    → (pair_layout a b).read header whole ≡ Ok v → (pair_layout a b).IsLaid v header whole
pair-found {A} {B} a b of_a of_b v header whole header_bytes bytes few e =
    let first = then-ok (a.read (take a.width header) whole) _ v e in
    let second = then-ok (b.read (drop a.width header) whole) _ v first.2 in
    subst (λ (w : A × B). (pair_layout a b).IsLaid w header whole) (ok-same (Ok (first.0, second.0)) (first.0, second.0) v refl second.2) (
      of_a.found first.0 (take a.width header) whole (bytes-cut header 0 a.width header_bytes) bytes (omega (arith, length-take a.width header)) first.1,
      of_b.found second.0 (drop a.width header) whole (bytes-drop a.width header header_bytes) bytes (omega (arith, length-drop a.width header)) second.1,
    )

pair-full : {A B : Type 0} (a : Layout A) (b : Layout B) → LayoutLaws a → LayoutLaws b → (v : A × B) (header whole : List ℕ)
    → (pair_layout a b).IsLaid v header whole → length header ≡ a.width + b.width
pair-full a b of_a of_b v header whole laid =
    let some = of_b.some in
    omega (
      arith,
      of_a.full v.0 (take a.width header) whole laid.0,
      of_b.full v.1 (drop a.width header) whole laid.1,
      length-take a.width header,
      length-drop a.width header,
    )

pair-given : {A B : Type 0} (a : Layout A) (b : Layout B) → LayoutLaws a → LayoutLaws b → (v : A × B) (header whole : List ℕ)
    → (pair_layout a b).Fits v → (pair_layout a b).IsLaid v header whole → (pair_layout a b).read header whole ≡ Ok v
pair-given {A} {B} a b of_a of_b v header whole fits laid =
    ap (λ (r : Answer A). then_read r (λ x. then_read (b.read (drop a.width header) whole) (λ y. Ok (x, y))))
    (of_a.given v.0 (take a.width header) whole fits.0 laid.0)
    ∙ ap (λ (r : Answer B). then_read r (λ y. Ok (v.0, y))) (of_b.given v.1 (drop a.width header) whole fits.1 laid.1)

pair-written : {A B : Type 0} (a : Layout A) (b : Layout B) → LayoutLaws a → LayoutLaws b → (v : A × B) (o : ℕ) (front rest : List ℕ) → length front ≡ o
    → IsWithin o (a.payload v.0 + b.payload v.1)
    → (pair_layout a b).IsLaid v ((pair_layout a b).head v o) (front ++ ((pair_layout a b).body v o ++ rest))
pair-written a b of_a of_b v o front rest at within =
    let o_b = o + a.payload v.0 in
    let hx = a.head v.0 o in
    let hy = b.head v.1 o_b in
    let bx = a.body v.0 o in
    let by = b.body v.1 o_b in
    let whole = front ++ ((bx ++ by) ++ rest) in
    let one : front ++ (bx ++ (by ++ rest)) ≡ whole = grind (arith, append_assoc) in
    let two : (front ++ bx) ++ (by ++ rest) ≡ whole = grind (arith, append_assoc) in
    let size = of_a.head_size v.0 o in (
      subst (λ (h : List ℕ). a.IsLaid v.0 h whole) (sym (take_at hx hy a.width size))
          (subst (a.IsLaid v.0 hx) one (of_a.written v.0 o front (by ++ rest) at
          (λ some. let near = within (omega arith) in omega arith))),
      subst (λ (h : List ℕ). b.IsLaid v.1 h whole) (sym (drop_at hx hy a.width size))
          (subst (b.IsLaid v.1 hy) two (of_b.written v.1 o_b (front ++ bx) rest
          (omega (arith, length-append front bx, of_a.body_size v.0 o))
          (λ some. let near = within (omega arith) in omega arith))),
    )

pub pair_laws : {A B : Type 0} (a : Layout A) (b : Layout B) → LayoutLaws a → LayoutLaws b → LayoutLaws (pair_layout a b)
pair_laws a b of_a of_b = record {
  some = let some = of_a.some in omega arith;
  found = pair-found a b of_a of_b;
  full = pair-full a b of_a of_b;
  given = pair-given a b of_a of_b;
  head_size = λ v o. omega (arith, length-append (a.head v.0 o) (b.head v.1 (o + a.payload v.0)), of_a.head_size v.0 o, of_b.head_size v.1 (o + a.payload v.0));
  body_size = λ v o. omega (arith, length-append (a.body v.0 o) (b.body v.1 (o + a.payload v.0)), of_a.body_size v.0 o, of_b.body_size v.1 (o + a.payload v.0));
  written = pair-written a b of_a of_b;
}

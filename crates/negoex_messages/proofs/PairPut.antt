-- What is put after a first field, and the bytes of a fixed size.
use Rattle.std.proofs.Common.{◌≡◌, ℕ, zero, suc, ◌+◌, ◌-◌, ◌*◌, ◌^◌, ◌<◌, ◌≤◌, List, ◌++◌, length, Ok, Err, MatchResult, ap, sym, ◌∙◌, append_assoc, append-nil, inl, inr, arith, Result}
use Rattle.std.proofs.lemmas.List.{length-append}
use Rattle.negoex_messages.specs.declared.error.NegoexError.{NegoexError}
use Rattle.negoex_messages.specs.Form.{Layout, IsPut, IsTooLong, IsWithin}
use Rattle.negoex_messages.specs.LeafLaws.{first-all}
use Rattle.negoex_messages.specs.Laws.{LayoutLaws}
use Rattle.negoex_messages.specs.Leaves.{random_layout}
use Rattle.negoex_messages.specs.Pairs.{pair_layout}

pub random-put : (v : List ℕ) (o : ℕ) (old new payload : List ℕ) → length v ≡ 32 → new ≡ old ++ v → IsPut random_layout v o old new payload payload
random-put v o old new payload size e = record {
  header = e ∙ ap (λ (b : List ℕ). old ++ b) (sym (first-all v size));
  payload = sym (append-nil payload);
  within = λ some. absurd (omega arith);
}

-- the second field's payload begins where the first one's ends
place-second : {A : Type 0} (a : Layout A) → LayoutLaws a → (x : A) (o behind : ℕ) (h0 h1 p0 p1 : List ℕ) → IsPut a x o h0 h1 p0 p1
    → behind ≡ o + (length p1 - length p0) * 1 → behind ≡ o + a.payload x
place-second a laws x o behind h0 h1 p0 p1 put at =
    omega (arith, ap length put.payload, length-append p0 (a.body x o), laws.body_size x o, at)

both-put : {A B : Type 0} (a : Layout A) (b : Layout B) (x : A) (y : B) (o behind : ℕ) (h0 h1 h2 p0 p1 p2 : List ℕ) → behind ≡ o + a.payload x
    → IsPut a x o h0 h1 p0 p1 → IsPut b y behind h1 h2 p1 p2 → behind < 2 ^ 32 → IsPut (pair_layout a b) (x, y) o h0 h2 p0 p2
both-put a b x y o behind h0 h1 h2 p0 p1 p2 at first second near =
    let w1 = first.within in
    let w2 = second.within in
    record {
      header = second.header ∙ ap (λ (h : List ℕ). h ++ b.head y behind) first.header
          ∙ append_assoc h0 (a.head x o) (b.head y behind) ∙ ap (λ (n : ℕ). h0 ++ (a.head x o ++ b.head y n)) at;
      payload = second.payload ∙ ap (λ (p : List ℕ). p ++ b.body y behind) first.payload
          ∙ append_assoc p0 (a.body x o) (b.body y behind) ∙ ap (λ (n : ℕ). p0 ++ (a.body x o ++ b.body y n)) at;
      within = λ some. both-within o behind (a.payload x) (b.payload y) at near w2;
    }
  where
    both-within : (o behind m n : ℕ) → behind ≡ o + m → behind < 2 ^ 32 → IsWithin behind n → o + (m + n) < 2 ^ 32
    both-within o behind m zero at near within = omega arith
    both-within o behind m (suc n) at near within = let end = within (omega arith) in omega arith

pub pair-put : {A B : Type 0} (a : Layout A) (b : Layout B) → LayoutLaws a → (x : A) (y : B) (o behind : ℕ) (h0 h1 h2 p0 p1 p2 : List ℕ) (result : Result (Unit {0}) NegoexError)
    → IsPut a x o h0 h1 p0 p1 → behind ≡ o + (length p1 - length p0) * 1 → behind < 2 ^ 32
    → MatchResult result (λ _. IsPut b y behind h1 h2 p1 p2) (IsTooLong behind (b.payload y))
    → MatchResult result (λ _. IsPut (pair_layout a b) (x, y) o h0 h2 p0 p2) (IsTooLong o (a.payload x + b.payload y))
pair-put a b laws x y o behind h0 h1 h2 p0 p1 p2 (Ok _) first at near second =
    both-put a b x y o behind h0 h1 h2 p0 p1 p2 (place-second a laws x o behind h0 h1 p0 p1 first at) first second near
pair-put a b laws x y o behind h0 h1 h2 p0 p1 p2 (Err e) first at near (inl memory) = inl memory
pair-put a b laws x y o behind h0 h1 h2 p0 p1 p2 (Err e) first at near (inr long) =
    inr (long.0, omega (arith, long.1, place-second a laws x o behind h0 h1 p0 p1 first at))

-- a payload that ends past 32 bits, with all that follows
pub first-long : {A : Type 0} (a : Layout A) → LayoutLaws a → (x : A) (o n : ℕ) (h0 h1 p0 p1 : List ℕ) → IsPut a x o h0 h1 p0 p1
    → 2 ^ 32 ≤ o + (length p1 - length p0) * 1 → 2 ^ 32 ≤ o + (a.payload x + n)
first-long a laws x o n h0 h1 p0 p1 put long =
    omega (arith, ap length put.payload, length-append p0 (a.body x o), laws.body_size x o, long)

-- an end past 32 bits is past it with all that follows
pub long-more : (o n m : ℕ) (e : NegoexError) → IsTooLong o n e → IsTooLong o (n + m) e
long-more o n m e (inl memory) = inl memory
long-more o n m e (inr long) = inr (long.0, omega (arith, long.1))

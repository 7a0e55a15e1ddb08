-- Of two runs one goes on where the other stopped; what was written is a front of what the longer run writes.
use Rattle.std.proofs.Common.{◌≡◌, ℕ, ◌-◌, ◌^◌, ◌≤◌, ◌⊎◌, inl, inr, min, List, [], ◌∷◌, ◌++◌, length, take, drop, map, Option, Some, Result, Ok, Err, IfOk, refl, sym, ap, subst, ◌∙◌, append_assoc, append-nil, take-append-drop, length-append, arith}
use Rattle.std.specs.List.{concat}
use Rattle.std.proofs.lemmas.List.{nil_from_length}
use Rattle.krb_frames.specs.declared.fault.ServeFault.{ServeFault}
use Rattle.krb_frames.specs.declared.fault.ServeFault.TheVariants.{Truncated, FrameTooLong, NoRequest, Read, Write, NoWords, NoMoment, ReplyTooLong, Memory, Accounts}
use Rattle.krb_frames.specs.Frames.{framed}
use Rattle.krb_frames.specs.Serving.{Left, Run, Step, IsServed, IsReplyFront, IsFinal, IsFrontOf}
use Rattle.krb_frames.proofs.Turns.{Why, same_asks, no_step, same_result, same_left}

concat-map-append : (done more : List (List ℕ)) → concat (map framed (done ++ more)) ≡ concat (map framed done) ++ concat (map framed more)
concat-map-append [] more = refl
concat-map-append (reply ∷ done) more = ap (λ l. framed reply ++ l) (concat-map-append done more) ∙ sym (append_assoc (framed reply) (concat (map framed done)) (concat (map framed more)))

abbrev pub Failed : ServeFault → Result ℕ ServeFault
Failed fault = Err fault

some-from_option : (x y : List ℕ) → Some x ≡ Some y → x ≡ y
some-from_option x y e = cc (e)

module _ (replies : List ℕ → ℕ → List ℕ → Option (List ℕ) → Type 0)
    (one_reply : (message : List ℕ) (moment : ℕ) (words : List ℕ) (a b : Option (List ℕ)) → replies message moment words a → replies message moment words b → a ≡ b)
    (wants : List ℕ → Type 0) where
  -- the next frame has one reply and leaves one state
  same_step : (s t u : Left) (x y : List ℕ) → Step replies s x t → Step replies s y u → (x ≡ y) × (t ≡ u)
  same_step s t u x y p q = let e = same_asks replies one_reply s t u (Some x) (Some y) p.0 q.0 in (some-from_option x y e.0, e.1)

  -- the second run goes on with these replies where the first stopped
  GoesOn : List (List ℕ) → Left → List (List ℕ) → Left → Type 0
  GoesOn done t more u = (rest : List (List ℕ)) × (more ≡ done ++ rest) × Run replies t rest u

  agree : (done more : List (List ℕ)) (s t u : Left) → Run replies s done t → Run replies s more u → GoesOn done t more u ⊎ GoesOn more u done t
  unfolding GoesOn
  agree [] more s t u p q = inl (more, refl, subst (λ v. Run replies v more u) (sym p) q)
  agree (x ∷ done) [] s t u p q = inr (x ∷ done, refl, subst (λ v. Run replies v (x ∷ done) t) (sym q) p)
  agree (x ∷ done) (y ∷ more) s t u (v, step, p) (w, other, q) =
      let same = same_step s v w x y step other in
      let rest = subst (λ k. Run replies k more u) (sym same.1) q in
      elim (agree done more v t u p rest) [
        | inl g ↦ inl (g.0, ap (λ l. l ∷ more) (sym same.0) ∙ ap (λ l. x ∷ l) g.1, g.2)
        | inr g ↦ inr (g.0, ap (λ l. l ∷ done) same.0 ∙ ap (λ l. y ∷ l) g.1, g.2)
      ]

  pub fronts : (done more : List (List ℕ)) (s t u : Left) → Run replies s done t → Run replies s more u → IsFrontOf done more ⊎ IsFrontOf more done
  unfolding GoesOn
  fronts done more s t u p q = elim (agree done more s t u p q) [ inl g ↦ inl (g.0, g.1) | inr g ↦ inr (g.0, g.1) ]

  -- ---- the parts of what was served

  -- what stands of the next reply: nothing, or a front of its frame
  abbrev pub Part : Left → List ℕ → Type 0
  Part s part = (part ≡ []) ⊎ ((reply : List ℕ) × (after : Left) × (n : ℕ) × Step replies s reply after × (part ≡ take n (framed reply)))

  pub record Served (start : Left) (written : List ℕ) (result : Result ℕ ServeFault) (new : Left) : Type 0 where
    done : List (List ℕ)
    stop : Left
    part : List ℕ
    run : Run replies start done stop
    why : Why replies one_reply wants stop result new
    of_next : Part stop part
    whole : written ≡ concat (map framed done) ++ part
    count : IfOk result (λ n. n ≡ min (length done) (2 ^ 64 - 1))
    final : IsFinal result → part ≡ []

  part_of : (s : Left) (fault : ServeFault) (part : List ℕ) → IsReplyFront replies s fault part → Part s part
  part_of s Truncated part is = inl is
  part_of s FrameTooLong part is = inl is
  part_of s NoRequest part is = inl is
  part_of s Read part is = inl is
  part_of s Write part is = inr is
  part_of s NoWords part is = inl is
  part_of s NoMoment part is = inl is
  part_of s ReplyTooLong part is = inl is
  part_of s Memory part is = inl is
  part_of s Accounts part is = inl is

  no_part : (s : Left) (fault : ServeFault) (part : List ℕ) → IsReplyFront replies s fault part → IsFinal (Failed fault) → part ≡ []
  no_part s Truncated part is final = is
  no_part s FrameTooLong part is final = is
  no_part s NoRequest part is final = is
  no_part s Read part is final = absurd final
  no_part s Write part is final = absurd final
  no_part s NoWords part is final = is
  no_part s NoMoment part is final = is
  no_part s ReplyTooLong part is final = is
  no_part s Memory part is final = absurd final
  no_part s Accounts part is final = absurd final

  pub served : (start new : Left) (written : List ℕ) (result : Result ℕ ServeFault) → IsServed replies wants start written result new → Served start written result new
  served start new written (Ok n) (done, s, run, (ended, same, whole, count)) = record {
    done = done;
    stop = s;
    part = [];
    run = run;
    why = (ended, same);
    of_next = inl refl;
    whole = whole ∙ sym (append-nil _);
    count = count;
    final = λ _. refl;
  }
  served start new written (Err fault) (done, s, run, (stops, part, is, whole)) = record {
    done = done;
    stop = s;
    part = part;
    run = run;
    why = stops;
    of_next = part_of s fault part is;
    whole = whole;
    count = tt;
    final = no_part s fault part is;
  }

  -- the part of the next reply begins the output of a run that continues
  part-front : (s u : Left) (part reply : List ℕ) (rest : List (List ℕ)) → Part s part → Run replies s (reply ∷ rest) u → IsFrontOf part (concat (map framed (reply ∷ rest)))
  part-front s u part reply rest (inl none) run = (concat (map framed (reply ∷ rest)), ap (λ l. l ++ concat (map framed (reply ∷ rest))) (sym none))
  part-front s u part reply rest (inr (first, after, n, step, is)) (mid, other, run) =
      let same = (same_step s after mid first reply step other).0 in
      let later = concat (map framed rest) in (
        drop n (framed first) ++ later,
        ap (λ l. framed l ++ later) (sym same) ∙ ap (λ l. l ++ later) (sym (take-append-drop n (framed first)))
            ∙ append_assoc (take n (framed first)) (drop n (framed first)) later ∙ ap (λ l. l ++ (drop n (framed first) ++ later)) (sym is),
      )

  -- a front behind the same frames
  front-behind : (done : List (List ℕ)) (part bytes : List ℕ) → IsFrontOf part bytes → IsFrontOf (concat (map framed done) ++ part) (concat (map framed done) ++ bytes)
  front-behind done part bytes (more, e) = (more, ap (λ l. concat (map framed done) ++ l) e ∙ sym (append_assoc (concat (map framed done)) part more))

  along : (a b c d : List ℕ) → a ≡ b → c ≡ d → IsFrontOf b d → IsFrontOf a c
  along a b c d e f (more, g) = (more, f ∙ g ∙ ap (λ l. l ++ more) (sym e))

  part-front_or_none : (s u : Left) (part : List ℕ) (rest : List (List ℕ)) → Part s part → (rest ≡ [] → part ≡ []) → Run replies s rest u → IsFrontOf part (concat (map framed rest))
  part-front_or_none s u part [] of_next none run = ([], ap (λ l. l ++ []) (sym (none refl)))
  part-front_or_none s u part (reply ∷ rest) of_next none run = part-front s u part reply rest of_next run

  -- ---- where serving stops for good

  module _ (s new : Left) (result : Result ℕ ServeFault) (final : IsFinal result) (why : Why replies one_reply wants s result new) where
    no_more : (rest : List (List ℕ)) (u : Left) → Run replies s rest u → (rest ≡ []) × (u ≡ s)
    no_more [] u run = (refl, run)
    no_more (reply ∷ rest) u (mid, step, run) = absurd (no_step replies one_reply wants s new mid result reply final why step)

    no_next : (part : List ℕ) → Part s part → part ≡ []
    no_next part (inl none) = none
    no_next part (inr (reply, after, n, step, is)) = absurd (no_step replies one_reply wants s new after result reply final why step)

  module _ (start s t : Left) (all part : List ℕ) (whole other : Result ℕ ServeFault) (final : IsFinal whole) (w : Served start all whole s) (o : Served start part other t) where
    to_end : GoesOn o.done o.stop w.done w.stop
    unfolding GoesOn
    to_end = elim (agree o.done w.done start o.stop w.stop o.run w.run) [
      | inl g ↦ g
      | inr g ↦ let none = no_more w.stop s whole final w.why g.0 o.stop g.2 in
          ([], sym (append-nil _ ∙ g.1 ∙ ap (λ l. w.done ++ l) none.0 ∙ append-nil w.done), sym none.1)
    ]

    all_is : (rest : List (List ℕ)) → w.done ≡ o.done ++ rest → all ≡ concat (map framed o.done) ++ concat (map framed rest)
    all_is rest e = w.whole ∙ ap (λ l. concat (map framed w.done) ++ l) (w.final final) ∙ append-nil _ ∙ ap (λ l. concat (map framed l)) e ∙ concat-map-append o.done rest

    pub front-all : IsFrontOf part all
    unfolding GoesOn
    front-all =
        let g = to_end in
        let none : g.0 ≡ [] → o.part ≡ [] = λ e.
        let here : w.stop ≡ o.stop = subst (λ l. Run replies o.stop l w.stop) e g.2 in
        no_next o.stop s whole final (subst (λ v. Why replies one_reply wants v whole s) here w.why) o.part o.of_next in
        along part (concat (map framed o.done) ++ o.part) all (concat (map framed o.done) ++ concat (map framed g.0)) o.whole (all_is g.0 g.1)
        (front-behind o.done o.part (concat (map framed g.0)) (part-front_or_none o.stop w.stop o.part g.0 o.of_next none g.2))

    pub same-all : IsFinal other → (part ≡ all) × (other ≡ whole) × (t ≡ s)
    unfolding GoesOn
    same-all other_final =
        let g = to_end in
        let none = no_more o.stop t other other_final o.why g.0 w.stop g.2 in
        let done : w.done ≡ o.done = g.1 ∙ ap (λ l. o.done ++ l) none.0 ∙ append-nil o.done in
        let count : IfOk whole (λ n. n ≡ min (length o.done) (2 ^ 64 - 1)) = subst (λ l. IfOk whole (λ n. n ≡ min (length l) (2 ^ 64 - 1))) done w.count in
        let why : Why replies one_reply wants o.stop whole s = subst (λ v. Why replies one_reply wants v whole s) none.1 w.why in
        let same : other ≡ whole = same_result replies one_reply wants o.stop s t whole other final other_final why o.why _ count o.count in (
          o.whole ∙ ap (λ l. concat (map framed o.done) ++ l) (o.final other_final) ∙ ap (λ l. concat (map framed o.done) ++ concat (map framed l)) (sym none.0) ∙ sym (all_is g.0 g.1),
          same,
          same_left replies one_reply wants o.stop s t whole final why (subst (λ r. Why replies one_reply wants o.stop r t) same o.why),
        )

  module _ (start s t : Left) (written : List ℕ) (result : Result ℕ ServeFault) (more : List (List ℕ)) (o : Served start written result s) (run : Run replies start more t)
      (short : length written ≤ length (concat (map framed more))) where
    pub front-longer : IsFrontOf written (concat (map framed more))
    unfolding GoesOn
    front-longer = elim (agree o.done more start o.stop t o.run run) [
      | inl g ↦
          let all : concat (map framed more) ≡ concat (map framed o.done) ++ concat (map framed g.0) = ap (λ l. concat (map framed l)) g.1 ∙ concat-map-append o.done g.0 in
          let none : g.0 ≡ [] → o.part ≡ [] = λ e.
          let bytes = all ∙ ap (λ l. concat (map framed o.done) ++ concat (map framed l)) e ∙ append-nil _ in
          nil_from_length o.part (omega (arith, short, ap length o.whole, ap length bytes, length-append (concat (map framed o.done)) o.part)) in
          along written (concat (map framed o.done) ++ o.part) (concat (map framed more)) (concat (map framed o.done) ++ concat (map framed g.0)) o.whole all
          (front-behind o.done o.part (concat (map framed g.0)) (part-front_or_none o.stop t o.part g.0 o.of_next none g.2))
      | inr g ↦
          let done : concat (map framed o.done) ≡ concat (map framed more) ++ concat (map framed g.0) = ap (λ l. concat (map framed l)) g.1 ∙ concat-map-append more g.0 in
          let bytes : written ≡ concat (map framed more) ++ (concat (map framed g.0) ++ o.part) =
          o.whole ∙ ap (λ l. l ++ o.part) done ∙ append_assoc (concat (map framed more)) (concat (map framed g.0)) o.part in
          let none : concat (map framed g.0) ++ o.part ≡ [] =
          nil_from_length _ (omega (arith, short, ap length bytes, length-append (concat (map framed more)) (concat (map framed g.0) ++ o.part))) in
          ([], sym (append-nil written ∙ bytes ∙ ap (λ l. concat (map framed more) ++ l) none ∙ append-nil _))
    ]

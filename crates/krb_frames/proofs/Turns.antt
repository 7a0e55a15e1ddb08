-- What comes next where this is left to serve is one thing: a reply, the end or one fault.
use Rattle.std.proofs.Common.{zero, suc, ◌≡◌, ◌≢◌, ℕ, ◌+◌, ◌<◌, ◌≤◌, ◌==◌, List, [], ◌∷◌, length, take, nat_lt, if◌then◌else◌, Option, Some, None, Result, Ok, Err, MatchResult, IfOk, lit<, refl, sym, ap, subst, ◌∙◌, arith}
use Rattle.std.proofs.lemmas.Bool.Decides.{nat_tests}
use Rattle.std.proofs.Math.Nat.{not-le_of_lt}
use Rattle.krb_frames.specs.declared.fault.ServeFault.{ServeFault}
use Rattle.krb_frames.specs.declared.fault.ServeFault.TheVariants.{Truncated, FrameTooLong, NoRequest, Read, Write, NoWords, NoMoment, ReplyTooLong, Memory, Accounts}
use Rattle.krb_frames.specs.Frames.{Front, Ended, Bad, Whole, front_of}
use Rattle.krb_frames.specs.Numbers.{fault_number}
use Rattle.krb_frames.specs.Serving.{Left, at, Asks, Step, StopsBy, IsFinal}

-- ---- turns as numbers: 0 is the end, a fault's number the fault, and 11 a reply

abbrev fault_at : ℕ → ServeFault
fault_at (suc zero) = Truncated
fault_at (suc (suc zero)) = FrameTooLong
fault_at (suc (suc (suc zero))) = NoRequest
fault_at (suc (suc (suc (suc (suc (suc zero)))))) = NoWords
fault_at (suc (suc (suc (suc (suc (suc (suc zero))))))) = NoMoment
fault_at _ = ReplyTooLong

abbrev front_number : Front → ℕ
front_number Ended = 0
front_number (Bad fault) = fault_number fault
front_number (Whole _ _) = 11

abbrev answer_number : Option (List ℕ) → ℕ
answer_number None = 0
answer_number (Some reply) = 1 + length reply

abbrev turn_of : ℕ → ℕ → ℕ → ℕ → ℕ
turn_of front moments words answer =
    if front == 0 then 0
    else if front == 1 then 1
    else if front == 2 then 2
    else if moments == 0 then 7
    else if nat_lt words 128 then 6
    else if answer == 0 then 3
    else if nat_lt 65537 answer then 8
    else 11

turn_of-ended : (f m w a : ℕ) → f ≡ 0 → turn_of f m w a ≡ 0
turn_of-ended f m w a p = grind (arith, nat_tests)

turn_of-truncated : (f m w a : ℕ) → f ≡ 1 → turn_of f m w a ≡ 1
turn_of-truncated f m w a p = grind (arith, nat_tests)

turn_of-long : (f m w a : ℕ) → f ≡ 2 → turn_of f m w a ≡ 2
turn_of-long f m w a p = grind (arith, nat_tests)

turn_of-no_moment : (f m w a : ℕ) → f ≡ 11 → m ≡ 0 → turn_of f m w a ≡ 7
turn_of-no_moment f m w a p q = grind (arith, nat_tests)

turn_of-no_words : (f m w a : ℕ) → f ≡ 11 → m ≢ 0 → w < 128 → turn_of f m w a ≡ 6
turn_of-no_words f m w a p q r = grind (arith, nat_tests)

turn_of-no_request : (f m w a : ℕ) → f ≡ 11 → m ≢ 0 → 128 ≤ w → a ≡ 0 → turn_of f m w a ≡ 3
turn_of-no_request f m w a p q r s = grind (arith, nat_tests)

turn_of-long_reply : (f m w a : ℕ) → f ≡ 11 → m ≢ 0 → 128 ≤ w → 65537 < a → turn_of f m w a ≡ 8
turn_of-long_reply f m w a p q r s = grind (arith, nat_tests)

turn_of-reply : (f m w a : ℕ) → f ≡ 11 → m ≢ 0 → 128 ≤ w → a ≢ 0 → a ≤ 65537 → turn_of f m w a ≡ 11
turn_of-reply f m w a p q r s t = grind (arith, nat_tests)

fault_number-within : (fault : ServeFault) → (0 < fault_number fault) × (fault_number fault < 11)
fault_number-within Truncated = (lit< tt, lit< tt)
fault_number-within FrameTooLong = (lit< tt, lit< tt)
fault_number-within NoRequest = (lit< tt, lit< tt)
fault_number-within Read = (lit< tt, lit< tt)
fault_number-within Write = (lit< tt, lit< tt)
fault_number-within NoWords = (lit< tt, lit< tt)
fault_number-within NoMoment = (lit< tt, lit< tt)
fault_number-within ReplyTooLong = (lit< tt, lit< tt)
fault_number-within Memory = (lit< tt, lit< tt)
fault_number-within Accounts = (lit< tt, lit< tt)

abbrev Failed : ServeFault → Result ℕ ServeFault
Failed fault = Err fault

fault_at-number : (fault : ServeFault) → IsFinal (Failed fault) → fault_at (fault_number fault) ≡ fault
fault_at-number Truncated final = refl
fault_at-number FrameTooLong final = refl
fault_at-number NoRequest final = refl
fault_at-number Read final = absurd final
fault_at-number Write final = absurd final
fault_at-number NoWords final = refl
fault_at-number NoMoment final = refl
fault_at-number ReplyTooLong final = refl
fault_at-number Memory final = absurd final
fault_at-number Accounts final = absurd final

abbrev number_of : Result ℕ ServeFault → ℕ
number_of (Ok _) = 0
number_of (Err fault) = fault_number fault

number_of-below : (result : Result ℕ ServeFault) → number_of result < 11
number_of-below (Ok _) = lit< tt
number_of-below (Err fault) = (fault_number-within fault).1

not_nil : (x : ℕ) (xs list : List ℕ) → list ≡ x ∷ xs → length list ≢ 0
not_nil x xs list e none = let len = ap length e in omega (arith, len, none)

-- ---- the turns of what is left to serve

module _ (replies : List ℕ → ℕ → List ℕ → Option (List ℕ) → Type 0)
    (one_reply : (message : List ℕ) (moment : ℕ) (words : List ℕ) (a b : Option (List ℕ)) → replies message moment words a → replies message moment words b → a ≡ b) where
  -- the next frame has one answer and leaves one state
  pub same_asks : (s t u : Left) (a b : Option (List ℕ)) → Asks replies s a t → Asks replies s b u → (a ≡ b) × (t ≡ u)
  same_asks s t u a b (m, x, f, ms, ws, p) (n, y, g, ns, vs, q) =
      let fronts : Whole m t.stream ≡ Whole n u.stream = sym f ∙ g in
      let moments : ◌≡◌ {A = List ℕ} (x ∷ t.moments) (y ∷ u.moments) = sym ms ∙ ns in
      let message : n ≡ m = cc (fronts) in
      let moment : y ≡ x = cc (moments) in
      let stream : t.stream ≡ u.stream = cc (fronts) in
      let later : t.moments ≡ u.moments = cc (moments) in
      let replied : replies m x (take 128 s.words) b = subst (λ k. replies k x (take 128 s.words) b) message (subst (λ k. replies n k (take 128 s.words) b) moment q.1) in (
        one_reply m x (take 128 s.words) a b p.1 replied,
        ap (λ l. at l t.stream t.words) later ∙ ap (λ l. at u.moments l t.words) stream ∙ ap (λ l. at u.moments u.stream l) (ws ∙ sym vs),
      )

module _ (replies : List ℕ → ℕ → List ℕ → Option (List ℕ) → Type 0)
    (one_reply : (message : List ℕ) (moment : ℕ) (words : List ℕ) (a b : Option (List ℕ)) → replies message moment words a → replies message moment words b → a ≡ b)
    (wants : List ℕ → Type 0) where
  -- why serving stops with this result where this is left, and what it then leaves
  abbrev pub Why : Left → Result ℕ ServeFault → Left → Type 0
  Why s result new = MatchResult result (λ _. (front_of s.stream ≡ Ended) × (new ≡ s)) (λ fault. StopsBy replies wants s fault new)

  -- whatever the next frame's answer is, it has this number
  abbrev HasAnswer : Left → ℕ → Type 0
  HasAnswer s a = (b : Option (List ℕ)) (after : Left) → Asks replies s b after → answer_number b ≡ a

  abbrev turn : Left → ℕ → ℕ
  turn s a = turn_of (front_number (front_of s.stream)) (length s.moments) (length s.words) a

  no_frame : (s : Left) (front : Front) → front_of s.stream ≡ front → front_number front < 11 → HasAnswer s 0
  no_frame s front e below b after asks = let n : 11 ≡ front_number front = ap front_number (sym asks.2 ∙ e) in absurd (omega (arith, n, below))

  an_answer : (s new : Left) (result : Result ℕ ServeFault) → IsFinal result → Why s result new → (a : ℕ) × HasAnswer s a
  an_answer s new (Ok _) final (front, same) = (0, no_frame s Ended front (lit< tt))
  an_answer s new (Err Truncated) final (front, same) = (0, no_frame s (Bad Truncated) front (lit< tt))
  an_answer s new (Err FrameTooLong) final (front, same) = (0, no_frame s (Bad FrameTooLong) front (lit< tt))
  an_answer s new (Err NoRequest) final asks = (0, λ b after other. ap answer_number (same_asks replies one_reply s after new b None other asks).0)
  an_answer s new (Err Read) final why = absurd final
  an_answer s new (Err Write) final why = absurd final
  an_answer s new (Err NoWords) final (takes, few, none) = (0, λ b after asks. absurd (not-le_of_lt few asks.5.0))
  an_answer s new (Err NoMoment) final (message, rest, front, none, same) = (0, λ b after asks. absurd (not_nil asks.1 after.moments s.moments asks.3 (ap length none)))
  an_answer s new (Err ReplyTooLong) final (reply, asks, long) = (1 + length reply, λ b after other. ap answer_number (same_asks replies one_reply s after new b (Some reply) other asks).0)
  an_answer s new (Err Memory) final why = absurd final
  an_answer s new (Err Accounts) final why = absurd final

  turn-final : (s new : Left) (result : Result ℕ ServeFault) → IsFinal result → Why s result new → (a : ℕ) → HasAnswer s a → turn s a ≡ number_of result
  turn-final s new (Ok _) final (front, same) a answers = turn_of-ended (front_number (front_of s.stream)) (length s.moments) (length s.words) a (ap front_number front)
  turn-final s new (Err Truncated) final (front, same) a answers = turn_of-truncated (front_number (front_of s.stream)) (length s.moments) (length s.words) a (ap front_number front)
  turn-final s new (Err FrameTooLong) final (front, same) a answers = turn_of-long (front_number (front_of s.stream)) (length s.moments) (length s.words) a (ap front_number front)
  turn-final s new (Err NoRequest) final asks a answers =
      turn_of-no_request (front_number (front_of s.stream)) (length s.moments) (length s.words) a (ap front_number asks.2) (not_nil asks.1 new.moments s.moments asks.3) asks.5.0
      (sym (answers None new asks))
  turn-final s new (Err Read) final why a answers = absurd final
  turn-final s new (Err Write) final why a answers = absurd final
  turn-final s new (Err NoWords) final ((message, moment, front, moments), few, none) a answers =
      turn_of-no_words (front_number (front_of s.stream)) (length s.moments) (length s.words) a (ap front_number front) (not_nil moment new.moments s.moments moments) few
  turn-final s new (Err NoMoment) final (message, rest, front, none, same) a answers =
      turn_of-no_moment (front_number (front_of s.stream)) (length s.moments) (length s.words) a (ap front_number front) (ap length none)
  turn-final s new (Err ReplyTooLong) final (reply, asks, long) a answers =
      let n = answers (Some reply) new asks in
      turn_of-long_reply (front_number (front_of s.stream)) (length s.moments) (length s.words) a (ap front_number asks.2) (not_nil asks.1 new.moments s.moments asks.3) asks.5.0
      (omega (arith, n, long))
  turn-final s new (Err Memory) final why a answers = absurd final
  turn-final s new (Err Accounts) final why a answers = absurd final

  turn-step : (s t : Left) (reply : List ℕ) → Step replies s reply t → (a : ℕ) → HasAnswer s a → turn s a ≡ 11
  turn-step s t reply (asks, fits) a answers =
      let n = answers (Some reply) t asks in
      turn_of-reply (front_number (front_of s.stream)) (length s.moments) (length s.words) a (ap front_number asks.2) (not_nil asks.1 t.moments s.moments asks.3) asks.5.0
      (λ none. omega (arith, n, none)) (omega (arith, n, fits))

  -- where serving stops for good, no frame is answered
  pub no_step : (s new t : Left) (result : Result ℕ ServeFault) (reply : List ℕ) → IsFinal result → Why s result new → Step replies s reply t → ⊥
  no_step s new t result reply final why step =
      let a = an_answer s new result final why in
      let ends = turn-final s new result final why a.0 a.1 in
      let goes = turn-step s t reply step a.0 a.1 in
      let below = number_of-below result in
      omega (arith, ends, goes, below)

  same_number : (s t u : Left) (p q : Result ℕ ServeFault) → IsFinal p → IsFinal q → Why s p t → Why s q u → number_of p ≡ number_of q
  same_number s t u p q p_final q_final p_why q_why =
      let a = an_answer s t p p_final p_why in
      sym (turn-final s t p p_final p_why a.0 a.1) ∙ turn-final s u q q_final q_why a.0 a.1

  -- serving stops for good in one way: with the same fault, or both times at the end
  pub same_result : (s t u : Left) (p q : Result ℕ ServeFault) → IsFinal p → IsFinal q → Why s p t → Why s q u → (count : ℕ) → IfOk p (λ n. n ≡ count) → IfOk q (λ n. n ≡ count)
      → q ≡ p
  same_result s t u (Ok m) (Ok n) p_final q_final p_why q_why count left right = ap Ok (right ∙ sym left)
  same_result s t u (Ok m) (Err g) p_final q_final p_why q_why count left right =
      let e = same_number s t u (Ok m) (Err g) p_final q_final p_why q_why in
      let some = (fault_number-within g).0 in
      absurd (omega (arith, e, some))
  same_result s t u (Err f) (Ok n) p_final q_final p_why q_why count left right =
      let e = same_number s t u (Err f) (Ok n) p_final q_final p_why q_why in
      let some = (fault_number-within f).0 in
      absurd (omega (arith, e, some))
  same_result s t u (Err f) (Err g) p_final q_final p_why q_why count left right =
      ap Err (sym (fault_at-number g q_final) ∙ ap fault_at (sym (same_number s t u (Err f) (Err g) p_final q_final p_why q_why)) ∙ fault_at-number f p_final)

  -- two frames that are at the front are one
  same_rest : (stream m n rest more : List ℕ) → front_of stream ≡ Whole m rest → front_of stream ≡ Whole n more → more ≡ rest
  same_rest stream m n rest more front other = let fronts : Whole m rest ≡ Whole n more = sym front ∙ other in cc (fronts)

  same_later : (moments later more : List ℕ) (x y : ℕ) → moments ≡ x ∷ later → moments ≡ y ∷ more → more ≡ later
  same_later moments later more x y first other = let lists : ◌≡◌ {A = List ℕ} (x ∷ later) (y ∷ more) = sym first ∙ other in cc (lists)

  -- and then it leaves the same
  pub same_left : (s t u : Left) (p : Result ℕ ServeFault) → IsFinal p → Why s p t → Why s p u → u ≡ t
  same_left s t u (Ok _) final (front, same) (again, other) = other ∙ sym same
  same_left s t u (Err Truncated) final (front, same) (again, other) = other ∙ sym same
  same_left s t u (Err FrameTooLong) final (front, same) (again, other) = other ∙ sym same
  same_left s t u (Err NoRequest) final asks other = (same_asks replies one_reply s u t None None other asks).1
  same_left s t u (Err Read) final why other = absurd final
  same_left s t u (Err Write) final why other = absurd final
  same_left s t u (Err NoWords) final ((m, x, f, ms), few, none) ((n, y, g, ns), again, nothing) =
      ap (λ l. at l u.stream u.words) (same_later s.moments t.moments u.moments x y ms ns)
      ∙ ap (λ l. at t.moments l u.words) (same_rest s.stream m n t.stream u.stream f g)
      ∙ ap (λ l. at t.moments t.stream l) (nothing ∙ sym none)
  same_left s t u (Err NoMoment) final (m, rest, f, none, same) (n, more, g, nothing, other) =
      other ∙ ap (λ l. at [] l s.words) (same_rest s.stream m n rest more f g) ∙ sym same
  same_left s t u (Err ReplyTooLong) final (x, asks, long) (y, other, again) = (same_asks replies one_reply s u t (Some y) (Some x) other asks).1
  same_left s t u (Err Memory) final why other = absurd final
  same_left s t u (Err Accounts) final why other = absurd final

-- How far serving a stream has come, and what that shows where it stops.
use Rattle.std.proofs.Common.{◌≡◌, ℕ, ◌+◌, ◌-◌, ◌^◌, min, List, [], ◌∷◌, ◌++◌, length, take, drop, map, Option, Some, None, Result, Ok, Err, inl, inr, refl, sym, ap, subst, ◌∙◌, append_assoc, append-nil, length-append, arith}
use Rattle.std.specs.List.{concat}
use Rattle.std.specs.Iterator.{Yields, DrainsIf}
use Rattle.std.specs.Io.KnownBytes.{Appends, Keeps}
use Rattle.std.proofs.KnownBytes.{Appends-nil, Appends-trans, Appends-kept, Keeps-refl}
use Rattle.krb_frames.specs.declared.fault.ServeFault.{ServeFault}
use Rattle.krb_frames.specs.declared.fault.ServeFault.TheVariants.{Truncated, FrameTooLong, NoRequest, Read, Write, NoWords, NoMoment, ReplyTooLong, Memory, Accounts}
use Rattle.krb_frames.specs.Frames.{Ended, Whole, front_of, framed}
use Rattle.krb_frames.specs.Serving.{Left, at, Run, Step, Asks, TakesMoment, IsReply, IsServed, StopsBy, IsReplyFront, Draws}
use Rattle.krb_frames.specs.Steps.{IsFrontFault, IsStepFault, IsReplyWritten}

-- serving ended so
abbrev Failed : ServeFault → Result ℕ ServeFault
Failed fault = Err fault

-- the message under another name
pub Whole-same : (stream message same rest : List ℕ) → front_of stream ≡ Whole message rest → same ≡ message → front_of stream ≡ Whole same rest
Whole-same stream message same rest front e = front ∙ ap (λ l. Whole l rest) (sym e)

-- ---- one more at the end

Yields-more : {M : Type 0} (gives : M → Option ℕ → M → Type 0) (xs : List ℕ) (x : ℕ) (s t u : M) → Yields gives s xs t → gives t (Some x) u
    → Yields gives s (xs ++ x ∷ []) u
Yields-more gives [] x s t u came more = (u, subst (λ v. gives v (Some x) u) (sym came) more, refl)
Yields-more gives (y ∷ ys) x s t u came more = (came.0, came.1, Yields-more gives ys x came.0 t u came.2 more)

concat-map-push : (done : List (List ℕ)) (reply : List ℕ) → concat (map framed (done ++ reply ∷ [])) ≡ concat (map framed done) ++ framed reply
concat-map-push [] reply = append-nil (framed reply)
concat-map-push (first ∷ done) reply = ap (λ l. framed first ++ l) (concat-map-push done reply) ∙ sym (append_assoc (framed first) (concat (map framed done)) (framed reply))

module _ (replies : List ℕ → ℕ → List ℕ → Option (List ℕ) → Type 0) (wants : List ℕ → Type 0) where
  Run-more : (done : List (List ℕ)) (reply : List ℕ) (s t u : Left) → Run replies s done t → Step replies t reply u → Run replies s (done ++ reply ∷ []) u
  Run-more [] reply s t u run step = (u, subst (λ v. Step replies v reply u) run step, refl)
  Run-more (first ∷ done) reply s t u run step = (run.0, run.1, Run-more done reply run.0 t u run.2 step)

  module _ {M : Type 0} (gives : M → Option ℕ → M → Type 0) (stream words : List ℕ) (start : M) (before : Option (List ℕ)) where
    -- the frames that were answered, and what is left
    pub record Progress (left_stream left_words written : Option (List ℕ)) (now : M) (answered : ℕ) : Type 0 where
      pub taken : List ℕ
      pub done : List (List ℕ)
      pub rest : List ℕ
      pub more : List ℕ
      pub stream_known : left_stream ≡ Some rest
      pub words_known : left_words ≡ Some more
      pub yields : Yields gives start taken now
      pub appends : Appends before written (concat (map framed done))
      pub run : (later : List ℕ) → Run replies (at (taken ++ later) stream words) done (at later rest more)
      pub count : answered ≡ min (length done) (2 ^ 64 - 1)

    -- at the start
    pub begins : (left_stream left_words : Option (List ℕ)) → left_stream ≡ Some stream → left_words ≡ Some words → Progress left_stream left_words before start 0
    begins left_stream left_words stream_known words_known = record {
      taken = [];
      done = [];
      rest = stream;
      more = words;
      stream_known = stream_known;
      words_known = words_known;
      yields = refl;
      appends = Appends-nil before;
      run = λ later. refl;
      count = omega arith;
    }

    -- what the loop ensures of its output
    abbrev pub Shows : Option (List ℕ) → Option (List ℕ) → Option (List ℕ) → M → Result ℕ ServeFault → Type 0
    Shows left_stream left_words written now result = (taken : List ℕ) × (bytes : List ℕ) × (rest : List ℕ) × (more : List ℕ) × Draws gives result start taken now
        × Appends before written bytes × (left_stream ≡ Some rest) × (left_words ≡ Some more)
        × ((later : List ℕ) → (result ≡ Err NoMoment → later ≡ []) → IsServed replies wants (at (taken ++ later) stream words) bytes result (at later rest more))

    module _ {left_stream left_words written : Option (List ℕ)} {now : M} {answered : ℕ} (p : Progress left_stream left_words written now answered) where
      -- the run so far, where one moment more was taken
      run_with : (moment : ℕ) (later : List ℕ) → Run replies (at ((p.taken ++ moment ∷ []) ++ later) stream words) p.done (at (moment ∷ later) p.rest p.more)
      run_with moment later = subst (λ l. Run replies (at l stream words) p.done (at (moment ∷ later) p.rest p.more))
          (sym (append_assoc p.taken (moment ∷ []) later)) (p.run (moment ∷ later))

      -- the stream ended
      pub ended : (new_stream : Option (List ℕ)) → front_of p.rest ≡ Ended → new_stream ≡ Some p.rest → Shows new_stream left_words written now (Ok answered)
      ended new_stream front known = (
        p.taken,
        concat (map framed p.done),
        p.rest,
        p.more,
        p.yields,
        p.appends,
        known,
        p.words_known,
        λ later _. (p.done, at later p.rest p.more, p.run later, (front, refl, refl, p.count)),
      )

      -- it stopped where nothing of a reply was written: these moments were taken, and the run leaves these
      stopped : (taken : List ℕ) (left : List ℕ → List ℕ) (fault : ServeFault) (new_stream new_words new : Option (List ℕ)) (end : M) (rest more : List ℕ)
          → Draws gives (Failed fault) start taken end → Keeps written new → new_stream ≡ Some rest → new_words ≡ Some more
          → ((later : List ℕ) → (Failed fault ≡ Failed NoMoment → later ≡ []) → Run replies (at (taken ++ later) stream words) p.done (at (left later) p.rest p.more)
          × StopsBy replies wants (at (left later) p.rest p.more) fault (at later rest more) × IsReplyFront replies (at (left later) p.rest p.more) fault [])
          → Shows new_stream new_words new end (Failed fault)
      stopped taken left fault new_stream new_words new end rest more draws keeps stream_known words_known why = (
        taken,
        concat (map framed p.done),
        rest,
        more,
        draws,
        Appends-kept _ _ _ _ p.appends keeps,
        stream_known,
        words_known,
        λ later none. let q = why later none in (p.done, at (left later) p.rest p.more, q.0, (q.1, [], q.2, sym (append-nil _))),
      )

      -- the stream's front is no frame
      pub stopped_at_front : (new_stream : Option (List ℕ)) (fault : ServeFault) → IsFrontFault p.rest new_stream fault → Shows new_stream left_words written now (Failed fault)
      stopped_at_front new_stream Truncated (front, known) =
          stopped p.taken (λ l. l) Truncated new_stream left_words written now [] p.more p.yields (Keeps-refl _) known p.words_known (λ later _. (p.run later, (front, refl), refl))
      stopped_at_front new_stream FrameTooLong (front, known) =
          stopped p.taken (λ l. l) FrameTooLong new_stream left_words written now (drop 4 p.rest) p.more p.yields (Keeps-refl _) known p.words_known
          (λ later _. (p.run later, (front, refl), refl))
      stopped_at_front new_stream NoRequest why = absurd why
      stopped_at_front new_stream Read (n, within, known) =
          stopped p.taken (λ l. l) Read new_stream left_words written now (drop n p.rest) p.more p.yields (Keeps-refl _) known p.words_known
          (λ later _. (p.run later, inl (n, within, refl), refl))
      stopped_at_front new_stream Write why = absurd why
      stopped_at_front new_stream NoWords why = absurd why
      stopped_at_front new_stream NoMoment why = absurd why
      stopped_at_front new_stream ReplyTooLong why = absurd why
      stopped_at_front new_stream Accounts why = absurd why
      stopped_at_front new_stream Memory (enough, small, known) =
          stopped p.taken (λ l. l) Memory new_stream left_words written now (drop 4 p.rest) p.more p.yields (Keeps-refl _) known p.words_known
          (λ later _. (p.run later, inl (enough, small, refl), refl))

      module _ (message rest : List ℕ) (front : front_of p.rest ≡ Whole message rest) (new_stream : Option (List ℕ)) (known : new_stream ≡ Some rest) (next : M) where
        -- no moment was left
        pub stopped_at_moment : gives now None next → Shows new_stream left_words written next (Failed NoMoment)
        stopped_at_moment none = stopped p.taken (λ l. l) NoMoment new_stream left_words written next rest p.more (now, p.yields, none) (Keeps-refl _) known p.words_known
            (λ later w. (p.run later, (message, rest, front, w refl, ap (λ l. at l rest p.more) (w refl)), refl))

        module _ (moment : ℕ) (gave : gives now (Some moment) next) where
          drained : Yields gives start (p.taken ++ moment ∷ []) next
          drained = Yields-more gives p.taken moment start now next p.yields gave

          asks : (later : List ℕ) (answer : Option (List ℕ)) → IsReply replies message moment p.more answer
              → Asks replies (at (moment ∷ later) p.rest p.more) answer (at later rest (drop 128 p.more))
          asks later answer replied = (message, moment, front, refl, refl, replied)

          takes : (later more : List ℕ) → TakesMoment (at (moment ∷ later) p.rest p.more) (at later rest more)
          takes later more = (message, moment, front, refl)

          -- one frame more was answered
          pub goes : (new_words new : Option (List ℕ)) (total : ℕ) → total ≡ min (answered + 1) (2 ^ 64 - 1)
              → IsReplyWritten replies message moment p.more written new new_words → Progress new_stream new_words new next total
          goes new_words new total one_more step = record {
            taken = p.taken ++ moment ∷ [];
            done = p.done ++ step.0 ∷ [];
            rest = rest;
            more = drop 128 p.more;
            stream_known = known;
            words_known = step.4;
            yields = drained;
            appends = subst (Appends before new) (sym (concat-map-push p.done step.0)) (Appends-trans _ _ _ _ _ p.appends step.3);
            run = λ later. Run-more p.done step.0 _ _ _ (run_with moment later) (asks later (Some step.0) step.1, step.2);
            count = let e = length-append p.done (step.0 ∷ []) in let c = p.count in omega (arith, e, c);
          }

          -- it stopped at this frame, of whose reply nothing was written
          stopped_here : (fault : ServeFault) (new_words new : Option (List ℕ)) (more : List ℕ) → Draws gives (Failed fault) start (p.taken ++ moment ∷ []) next → Keeps written new
              → new_words ≡ Some more → ((later : List ℕ) → StopsBy replies wants (at (moment ∷ later) p.rest p.more) fault (at later rest more)
              × IsReplyFront replies (at (moment ∷ later) p.rest p.more) fault []) → Shows new_stream new_words new next (Failed fault)
          stopped_here fault new_words new more draws keeps words_known why =
              stopped (p.taken ++ moment ∷ []) (λ l. moment ∷ l) fault new_stream new_words new next rest more draws keeps known words_known
              (λ later _. let q = why later in (run_with moment later, q.0, q.1))

          -- the message was not answered
          pub stopped_at_step : (new_words new : Option (List ℕ)) (fault : ServeFault) → IsStepFault replies wants message moment p.more written new new_words fault
              → Shows new_stream new_words new next (Failed fault)
          stopped_at_step new_words new Truncated why = absurd why
          stopped_at_step new_words new FrameTooLong why = absurd why
          stopped_at_step new_words new NoRequest (replied, keeps, left) =
              stopped_here NoRequest new_words new (drop 128 p.more) drained keeps left (λ later. (asks later None replied, refl))
          stopped_at_step new_words new Read ((n, within, left), keeps) =
              stopped_here Read new_words new (drop n p.more) drained keeps left (λ later. (inr (takes later (drop n p.more), n, within, refl), refl))
          stopped_at_step new_words new Write (reply, replied, fits, n, grown, left) = (
            p.taken ++ moment ∷ [],
            concat (map framed p.done) ++ take n (framed reply),
            rest,
            drop 128 p.more,
            drained,
            Appends-trans _ _ _ _ _ p.appends grown,
            known,
            left,
            λ later _. let after = at later rest (drop 128 p.more) in
                let step : Step replies (at (moment ∷ later) p.rest p.more) reply after = (asks later (Some reply) replied, fits) in
                (p.done, at (moment ∷ later) p.rest p.more, run_with moment later, ((reply, step), take n (framed reply), (reply, after, n, step, refl), refl)),
          )
          stopped_at_step new_words new NoWords (few, keeps, left) =
              stopped_here NoWords new_words new [] drained keeps left (λ later. ((takes later [], few, refl), refl))
          stopped_at_step new_words new NoMoment why = absurd why
          stopped_at_step new_words new ReplyTooLong (reply, replied, long, keeps, left) =
              stopped_here ReplyTooLong new_words new (drop 128 p.more) drained keeps left (λ later. ((reply, asks later (Some reply) replied, long), refl))
          stopped_at_step new_words new Accounts (enough, keeps, left) =
              stopped_here Accounts new_words new (drop 128 p.more) drained keeps left (λ later. ((takes later (drop 128 p.more), enough, refl), refl))
          stopped_at_step new_words new Memory (enough, inl wanted, keeps, left) =
              stopped_here Memory new_words new (drop 128 p.more) drained keeps left (λ later. (inr (inl (message, moment, front, refl, enough, refl, wanted)), refl))
          stopped_at_step new_words new Memory (enough, inr (reply, replied, fits), keeps, left) =
              stopped_here Memory new_words new (drop 128 p.more) drained keeps left (λ later. (inr (inr (reply, (asks later (Some reply) replied, fits))), refl))

-- ---- an iterator that is handed in by value

-- the moments that were drawn were taken, and then none was left where that is the fault
pub DrainsIf-from_Draws : {M : Type 0} (gives : M → Option ℕ → M → Type 0) (start end : M) (taken : List ℕ) (result : Result ℕ ServeFault) → Draws gives result start taken end
    → DrainsIf gives (result ≡ Err NoMoment) start taken
DrainsIf-from_Draws gives start end taken (Ok n) draws = (end, draws, λ e. absurd (cc (e)))
DrainsIf-from_Draws gives start end taken (Err Truncated) draws = (end, draws, λ e. absurd (cc (e)))
DrainsIf-from_Draws gives start end taken (Err FrameTooLong) draws = (end, draws, λ e. absurd (cc (e)))
DrainsIf-from_Draws gives start end taken (Err NoRequest) draws = (end, draws, λ e. absurd (cc (e)))
DrainsIf-from_Draws gives start end taken (Err Read) draws = (end, draws, λ e. absurd (cc (e)))
DrainsIf-from_Draws gives start end taken (Err Write) draws = (end, draws, λ e. absurd (cc (e)))
DrainsIf-from_Draws gives start end taken (Err NoWords) draws = (end, draws, λ e. absurd (cc (e)))
DrainsIf-from_Draws gives start end taken (Err NoMoment) draws = (draws.0, draws.1, λ _. (end, draws.2))
DrainsIf-from_Draws gives start end taken (Err ReplyTooLong) draws = (end, draws, λ e. absurd (cc (e)))
DrainsIf-from_Draws gives start end taken (Err Memory) draws = (end, draws, λ e. absurd (cc (e)))
DrainsIf-from_Draws gives start end taken (Err Accounts) draws = (end, draws, λ e. absurd (cc (e)))

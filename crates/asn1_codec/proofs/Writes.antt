-- What several writes add up to.
use Rattle.std.proofs.Common.{◌≡◌, ◌⊎◌, ℕ, ◌+◌, ◌^◌, ◌<◌, ◌≤◌, true, false, List, [], ◌∷◌, ◌++◌, length, take, min, Option, None, Some, inl, inr, refl, sym, ap, subst, ◌∙◌, arith, append_assoc, append-nil, length-append, Result, Ok, Err, MatchResult}
use Rattle.std.specs.Prelude.{IsTrue}
use Rattle.std.proofs.lemmas.List.{take-append-le, take_min}
use Rattle.std.proofs.Math.Seq.{take-append-add, take-length}
use Rattle.std.specs.Io.KnownBytes.{Appends}
use Rattle.std.proofs.KnownBytes.{Appends-trans, Appends-nil}
use Rattle.byte_streams.specs.Counting.{one_more}
use Rattle.byte_streams.specs.Room.{TakenRoom, FitsRoom, IsPast}
use Rattle.byte_streams.specs.Faults.{TellsWholeFault}
use Rattle.byte_streams.specs.Whole.{after_whole_fault}
use Rattle.byte_streams.specs.declared.exact.WholeFault.{WholeFault}
use Rattle.byte_streams.specs.declared.exact.WholeFault.TheVariants as whole
use Rattle.byte_streams.proofs.Rooms.{taken_room-none, taken_room-join, past-after, past-more, past-whole, unbounded-after, unbounded-whole}
use Rattle.asn1_der.specs.Tree.{Tree, primitive, constructed, absent, der, ders, wrapped, behind}
use Rattle.asn1_der.specs.Length.{element, length_octets}
use Rattle.asn1_der.proofs.Elements.{element-nonempty, element-split, length-element, length_octets-short}
use Rattle.asn1_der.specs.declared.error.Asn1DerError.{Asn1DerError}
use Rattle.asn1_der.specs.declared.error.Asn1DerError.TheVariants.{InvalidSink, Memory, Other, TruncatedData, InvalidData, UnsupportedValue, UnsupportedType, Message}
use Rattle.asn1_der.specs.declared.error.Unsupported.{Unsupported}
use Rattle.asn1_der.specs.declared.error.Unsupported.TheVariants.{OneValue, WholeType}
use Rattle.asn1_der.specs.Refusals.{RefusedAs, first_refusal, refusal_of, refusal_of_list, refusal_in, part_refusal, list_refusal, refusal_of_option}
use Rattle.asn1_codec.specs.Sinks.{sink_fault, as_too_long}
use Rattle.asn1_codec.specs.Writing.{Writing, Wrote, NotWrote, WroteValue, NotWroteValue, NotWroteFields, Measured, NotMeasured, IsSinkFault, IsTooLong, halted, left_by}

-- writes, one after another

pub wrote-join : (a b : List ℕ) (old mid new : Writing) → Wrote a old mid → Wrote b mid new → Wrote (a ++ b) old new
wrote-join a b old mid new p q = record {
  held = Appends-trans old.held mid.held new.held a b p.held q.held;
  room = subst (TakenRoom old.room new.room) (sym (length-append a b)) (taken_room-join old.room mid.room new.room (length a) (length b) p.room q.room);
  sound_before = p.sound_before;
  sound_after = q.sound_after;
  faults = q.faults ∙ p.faults;
  grows = q.grows ∙ p.grows;
  same = q.same ∙ p.same;
}

pub wrote-as : (a b : List ℕ) (old new : Writing) → a ≡ b → Wrote a old new → Wrote b old new
wrote-as a b old new e p = subst (λ x. Wrote x old new) e p

pub wrote-nothing : (old : Writing) → old.failed ≡ false → Wrote [] old old
wrote-nothing old sound = record {
  held = Appends-nil old.held;
  room = taken_room-none old.room;
  sound_before = sound;
  sound_after = sound;
  faults = refl;
  grows = refl;
  same = refl;
}

pub wrote-same : (a : List ℕ) (old mid new : Writing) → Wrote a old mid → new ≡ mid → Wrote a old new
wrote-same a old mid new p is = subst (Wrote a old) (sym is) p

pub wrote-from : (a : List ℕ) (old mid new : Writing) → mid ≡ old → Wrote a mid new → Wrote a old new
wrote-from a old mid new is p = subst (λ w. Wrote a w new) is p

-- where only lengths are computed, any bytes count as written
pub wrote-measured : (bytes : List ℕ) (old : Writing) → old.held ≡ None → old.room ≡ None → old.failed ≡ false → Wrote bytes old old
wrote-measured bytes old none endless sound = record {
  held = subst (λ h. Appends h old.held bytes) (sym none) tt;
  room = subst (λ r. TakenRoom r old.room (length bytes)) (sym endless) tt;
  sound_before = sound;
  sound_after = sound;
  faults = refl;
  grows = refl;
  same = refl;
}

-- a failed call

fault_of : (r : Option Unsupported) (bytes : List ℕ) (old new : Writing) (e : Asn1DerError) → old.failed ≡ false
    → ((old.failed ≡ true) × (e ≡ InvalidSink) × (new.faults ≡ old.faults)) ⊎ ((old.failed ≡ false) × IsSinkFault bytes old new e × ((r ≡ None) ⊎ IsTooLong bytes))
    → IsSinkFault bytes old new e × ((r ≡ None) ⊎ IsTooLong bytes)
fault_of r bytes old new e sound (inl failed) = absurd (cc (sound, failed.0))
fault_of r bytes old new e sound (inr cause) = (cause.1, cause.2)

-- the fault of a later write is one of all that was to be written
fault_after : (a b : List ℕ) (old mid new : Writing) (e : Asn1DerError) → Wrote a old mid → IsSinkFault b mid new e → IsSinkFault (a ++ b) old new e
fault_after a b old mid new Memory wrote (same, inl grows) = (same ∙ wrote.faults, inl (sym wrote.grows ∙ grows))
fault_after a b old mid new Memory wrote (same, inr long) = (same ∙ wrote.faults, inr (omega (arith, long, length-append a b)))
fault_after a b old mid new (Other k) wrote fault = (fault.0 ∙ ap one_more wrote.faults, fault.1, unbounded-after old.room mid.room (length a) wrote.room fault.2)
fault_after a b old mid new InvalidSink wrote fault =
    (fault.0 ∙ ap one_more wrote.faults, fault.1, subst (IsPast old.room) (sym (length-append a b)) (past-after old.room mid.room (length a) (length b) wrote.room fault.2))
fault_after a b old mid new TruncatedData wrote fault = absurd fault
fault_after a b old mid new InvalidData wrote fault = absurd fault
fault_after a b old mid new UnsupportedValue wrote fault = absurd fault
fault_after a b old mid new UnsupportedType wrote fault = absurd fault
fault_after a b old mid new (Message rule) wrote fault = absurd fault

-- and the fault of a front is one of the whole
fault_before : (a b : List ℕ) (old new : Writing) (e : Asn1DerError) → IsSinkFault a old new e → IsSinkFault (a ++ b) old new e
fault_before a b old new Memory (same, inl grows) = (same, inl grows)
fault_before a b old new Memory (same, inr long) = (same, inr (omega (arith, long, length-append a b)))
fault_before a b old new (Other k) fault = fault
fault_before a b old new InvalidSink fault = (fault.0, fault.1, past-more old.room (length a) (length (a ++ b)) (omega (arith, length-append a b)) fault.2)
fault_before a b old new TruncatedData fault = absurd fault
fault_before a b old new InvalidData fault = absurd fault
fault_before a b old new UnsupportedValue fault = absurd fault
fault_before a b old new UnsupportedType fault = absurd fault
fault_before a b old new (Message rule) fault = absurd fault

longer : (r : Option Unsupported) (a b : List ℕ) → length a ≤ length b → (r ≡ None) ⊎ IsTooLong a → (r ≡ None) ⊎ IsTooLong b
longer r a b more (inl none) = inl none
longer r a b more (inr long) = inr (omega (arith, long, more))

-- bytes were written, and then a call failed
pub notwrote-after : (r : Option Unsupported) (a b : List ℕ) (old mid new : Writing) (e : Asn1DerError) → Wrote a old mid → NotWrote r b mid new e → NotWrote r (a ++ b) old new e
notwrote-after r a b old mid new e wrote failed =
    let cause = fault_of r b mid new e wrote.sound_after failed.cause in
    record {
      front = (
        length a + failed.front.0,
        subst (Appends old.held new.held) (sym (take-append-add a b failed.front.0))
            (Appends-trans old.held mid.held new.held a (take failed.front.0 b) wrote.held failed.front.1),
      );
      failed = failed.failed;
      grows = failed.grows ∙ wrote.grows;
      same = failed.same ∙ wrote.same;
      cause = inr (wrote.sound_before, fault_after a b old mid new e wrote cause.0, longer r b (a ++ b) (omega (arith, length-append a b)) cause.1);
    }

front_cause : (r : Option Unsupported) (a b : List ℕ) (old new : Writing) (e : Asn1DerError)
    → ((old.failed ≡ true) × (e ≡ InvalidSink) × (new.faults ≡ old.faults)) ⊎ ((old.failed ≡ false) × IsSinkFault a old new e × ((r ≡ None) ⊎ IsTooLong a))
    → ((old.failed ≡ true) × (e ≡ InvalidSink) × (new.faults ≡ old.faults)) ⊎ ((old.failed ≡ false) × IsSinkFault (a ++ b) old new e × ((r ≡ None) ⊎ IsTooLong (a ++ b)))
front_cause r a b old new e (inl again) = inl again
front_cause r a b old new e (inr cause) = inr (cause.0, fault_before a b old new e cause.1, longer r a (a ++ b) (omega (arith, length-append a b)) cause.2)

-- a call failed, and more was to be written
pub notwrote-before : (r : Option Unsupported) (a b : List ℕ) (old new : Writing) (e : Asn1DerError) → NotWrote r a old new e → NotWrote r (a ++ b) old new e
notwrote-before r a b old new e failed =
    let n = min failed.front.0 (length a) in
    let few : n ≤ length a = omega arith in
    record {
      front = (n, subst (Appends old.held new.held) (sym (take-append-le n a b few ∙ take_min failed.front.0 a)) failed.front.1);
      failed = failed.failed;
      grows = failed.grows;
      same = failed.same;
      cause = front_cause r a b old new e failed.cause;
    }

pub notwrote-as : (r : Option Unsupported) (a b : List ℕ) (old new : Writing) (e : Asn1DerError) → a ≡ b → NotWrote r a old new e → NotWrote r b old new e
notwrote-as r a b old new e is failed = subst (λ x. NotWrote r x old new e) is failed

any_cause : (r s : Option Unsupported) (a : List ℕ) (old new : Writing) (e : Asn1DerError) → ((r ≡ None) → s ≡ None)
    → ((old.failed ≡ true) × (e ≡ InvalidSink) × (new.faults ≡ old.faults)) ⊎ ((old.failed ≡ false) × IsSinkFault a old new e × ((r ≡ None) ⊎ IsTooLong a))
    → ((old.failed ≡ true) × (e ≡ InvalidSink) × (new.faults ≡ old.faults)) ⊎ ((old.failed ≡ false) × IsSinkFault a old new e × ((s ≡ None) ⊎ IsTooLong a))
any_cause r s a old new e none (inl again) = inl again
any_cause r s a old new e none (inr (sound, fault, inl is)) = inr (sound, fault, inl (none is))
any_cause r s a old new e none (inr (sound, fault, inr long)) = inr (sound, fault, inr long)

-- the same of another refusal, where that is none too
pub notwrote-refusal : (r s : Option Unsupported) (a : List ℕ) (old new : Writing) (e : Asn1DerError) → ((r ≡ None) → s ≡ None) → NotWrote r a old new e → NotWrote s a old new e
notwrote-refusal r s a old new e none failed = record {
  front = failed.front;
  failed = failed.failed;
  grows = failed.grows;
  same = failed.same;
  cause = any_cause r s a old new e none failed.cause;
}

-- each call fails after a failed one
pub notwrote-again : (r : Option Unsupported) (bytes : List ℕ) (old new : Writing) (e : Asn1DerError) → old.failed ≡ true → new ≡ old → e ≡ InvalidSink → NotWrote r bytes old new e
notwrote-again r bytes old new e failed is fault = subst (λ w. NotWrote r bytes old w e) (sym is) (record {
  front = (0, Appends-nil old.held);
  failed = failed;
  grows = refl;
  same = refl;
  cause = inl (failed, fault, refl);
})

-- a length that no number says, behind what was written
pub notwrote-too_long : (r : Option Unsupported) (a bytes : List ℕ) (old mid new : Writing) (e : Asn1DerError) → Wrote a old mid
    → ((n : ℕ) × (take n bytes ≡ a)) → IsTooLong bytes → new ≡ halted mid → e ≡ Memory → NotWrote r bytes old new e
notwrote-too_long r a bytes old mid new e wrote part long is fault = subst (λ w. NotWrote r bytes old w e) (sym is) (record {
  front = (part.0, subst (Appends old.held mid.held) (sym part.1) wrote.held);
  failed = refl;
  grows = wrote.grows;
  same = wrote.same;
  cause = inr (wrote.sound_before, subst (IsSinkFault bytes old (halted mid)) (sym fault) (wrote.faults, inr long), inr long);
})

-- a fault of the sink

whole_cause : (bytes : List ℕ) (old new : Writing) (fault : WholeFault) → new.faults ≡ after_whole_fault old.faults fault
    → FitsRoom {T = Unit {0}} old.room new.room (Err fault) (length bytes) → TellsWholeFault new.kind fault
    → (fault ≡ whole.Memory → IsTrue old.grows) → IsSinkFault bytes old new (sink_fault fault)
whole_cause bytes old new whole.Full count fits kind grows = (count, kind, past-whole (Unit {0}) old.room new.room whole.Full (length bytes) fits)
whole_cause bytes old new (whole.Failed k) count fits kind grows = (count, kind, unbounded-whole (Unit {0}) old.room new.room (whole.Failed k) (length bytes) fits (λ e. cc))
whole_cause bytes old new whole.Memory count fits kind grows = (count, inl (grows refl))

pub notwrote-sink : (bytes : List ℕ) (old new : Writing) (fault : WholeFault) (e : Asn1DerError) → old.failed ≡ false → new.failed ≡ true
    → ((n : ℕ) × Appends old.held new.held (take n bytes)) → new.grows ≡ old.grows → new.through ≡ old.through
    → new.faults ≡ after_whole_fault old.faults fault
    → FitsRoom {T = Unit {0}} old.room new.room (Err fault) (length bytes) → TellsWholeFault new.kind fault
    → (fault ≡ whole.Memory → IsTrue old.grows) → e ≡ sink_fault fault → NotWrote None bytes old new e
notwrote-sink bytes old new fault e sound failed front grown same count fits kind grows is = record {
  front = front;
  failed = failed;
  grows = grown;
  same = same;
  cause = inr (sound, subst (IsSinkFault bytes old new) (sym is) (whole_cause bytes old new fault count fits kind grows), inl refl);
}

-- values and fields

refused-first : (r s : Option Unsupported) (e : Asn1DerError) → RefusedAs r e → RefusedAs (first_refusal r s) e
refused-first None s e refused = absurd refused
refused-first (Some why) s e refused = refused

refused-rest : (r s : Option Unsupported) (e : Asn1DerError) → r ≡ None → RefusedAs s e → RefusedAs (first_refusal r s) e
refused-rest None s e none refused = refused
refused-rest (Some why) s e none refused = absurd (cc (none))

pub first_refusal-none : (r s : Option Unsupported) → r ≡ None → s ≡ None → first_refusal r s ≡ None
first_refusal-none None s none also = also
first_refusal-none (Some why) s none also = absurd (cc (none))

pub refused-none : (r : Option Unsupported) (e : Asn1DerError) → r ≡ None → RefusedAs r e → ⊥
refused-none None e none refused = refused
refused-none (Some why) e none refused = cc

-- the first of some values was not written
pub fields-first : (r s : Option Unsupported) (a b : List ℕ) (old new : Writing) (e : Asn1DerError) → NotWroteValue r a old new e
    → NotWroteFields (first_refusal r s) (a ++ b) old new e
fields-first r s a b old new e (inl (refused, wrote)) = inl (refused-first r s e refused, (0, wrote))
fields-first r s a b old new e (inr failed) = inr (notwrote-before None a b old new e (notwrote-refusal r None a old new e (λ _. refl) failed))

-- the first was written, and then one of those behind it was not
pub fields-rest : (r s : Option Unsupported) (a b : List ℕ) (old mid new : Writing) (e : Asn1DerError) → Wrote a old mid → r ≡ None
    → NotWroteFields s b mid new e → NotWroteFields (first_refusal r s) (a ++ b) old new e
fields-rest r s a b old mid new e wrote none (inl (refused, part)) =
    inl (
      refused-rest r s e none refused,
      (
        length a + part.0,
        wrote-as (a ++ take part.0 b) (take (length a + part.0) (a ++ b)) old new (sym (take-append-add a b part.0))
            (wrote-join a (take part.0 b) old mid new wrote part.1),
      ),
    )
fields-rest r s a b old mid new e wrote none (inr failed) = inr (notwrote-after None a b old mid new e wrote failed)

-- all were written, and no number says their length
pub fields-sum : (r : Option Unsupported) (bytes : List ℕ) (old mid new : Writing) (e : Asn1DerError) → Wrote bytes old mid
    → IsTooLong bytes → new ≡ halted mid → e ≡ Memory → NotWroteFields r bytes old new e
fields-sum r bytes old mid new e wrote long is fault =
    inr (notwrote-too_long None bytes bytes old mid new e wrote (length bytes, take-length bytes) long is fault)

-- a value after an element's header
pub value-after : (r : Option Unsupported) (a b : List ℕ) (old mid new : Writing) (e : Asn1DerError) → Wrote a old mid → r ≡ None
    → NotWroteValue r b mid new e → NotWrote r (a ++ b) old new e
value-after r a b old mid new e wrote none (inl (refused, part)) = absurd (refused-none r e none refused)
value-after r a b old mid new e wrote none (inr failed) = notwrote-after r a b old mid new e wrote failed

pub fields-after : (r : Option Unsupported) (a b : List ℕ) (old mid new : Writing) (e : Asn1DerError) → Wrote a old mid → r ≡ None
    → NotWroteFields r b mid new e → NotWrote r (a ++ b) old new e
fields-after r a b old mid new e wrote none (inl (refused, part)) = absurd (refused-none r e none refused)
fields-after r a b old mid new e wrote none (inr failed) =
    notwrote-refusal None r (a ++ b) old new e (λ _. none) (notwrote-after None a b old mid new e wrote failed)

-- measures

left_refused : (r : Option Unsupported) (e : Asn1DerError) (old : Writing) → RefusedAs r e → left_by e old ≡ old
left_refused None e old refused = absurd refused
left_refused (Some OneValue) e old refused = ap (λ x. left_by x old) refused
left_refused (Some WholeType) e old refused = ap (λ x. left_by x old) refused

-- what was to be measured was not, and nothing is written
pub not_measured : (r : Option Unsupported) (inner bytes : List ℕ) (old new : Writing) (fault e : Asn1DerError) → old.failed ≡ false
    → length inner ≤ length bytes → NotMeasured Memory r inner fault → new ≡ left_by fault old → e ≡ fault → NotWroteValue r bytes old new e
not_measured r inner bytes old new fault e sound more (inl refused) is same =
    inl (subst (RefusedAs r) (sym same) refused, wrote-same [] old old new (wrote-nothing old sound) (is ∙ left_refused r fault old refused))
not_measured r inner bytes old new fault e sound more (inr (memory, long)) is same =
    inr (notwrote-too_long r [] bytes old old new e (wrote-nothing old sound) (0, refl) (omega (arith, long, more))
    (is ∙ ap (λ x. left_by x old) memory) (same ∙ memory))

fresh_fault : (bytes : List ℕ) (old new : Writing) (e : Asn1DerError) → old.faults ≡ 0 → old.grows ≡ false → new.faults ≡ 0
    → IsSinkFault bytes old new e → (e ≡ Memory) × IsTooLong bytes
fresh_fault bytes old new Memory none still also (same, inl grows) = absurd (cc (still, grows))
fresh_fault bytes old new Memory none still also (same, inr long) = (refl, long)
fresh_fault bytes old new (Other k) none still also fault = let count = sym also ∙ fault.0 ∙ ap one_more none in absurd (omega (arith, count))
fresh_fault bytes old new InvalidSink none still also fault = let count = sym also ∙ fault.0 ∙ ap one_more none in absurd (omega (arith, count))
fresh_fault bytes old new TruncatedData none still also fault = absurd fault
fresh_fault bytes old new InvalidData none still also fault = absurd fault
fresh_fault bytes old new UnsupportedValue none still also fault = absurd fault
fresh_fault bytes old new UnsupportedType none still also fault = absurd fault
fresh_fault bytes old new (Message rule) none still also fault = absurd fault

-- nothing but a length that no number says fails where nothing is written
fresh_cause : (r : Option Unsupported) (bytes : List ℕ) (old new : Writing) (e : Asn1DerError) → old.failed ≡ false → old.faults ≡ 0 → old.grows ≡ false → new.faults ≡ 0
    → NotWrote r bytes old new e → (e ≡ Memory) × IsTooLong bytes
fresh_cause r bytes old new e sound none still also failed =
    fresh_fault bytes old new e none still also (fault_of r bytes old new e sound failed.cause).0

pub measured-value : (r : Option Unsupported) (bytes : List ℕ) (old new : Writing) (answer : Result ℕ Asn1DerError) → old.failed ≡ false → old.faults ≡ 0 → old.grows ≡ false → new.faults ≡ 0
    → MatchResult answer (WroteValue r bytes old new) (NotWroteValue r bytes old new) → MatchResult answer (Measured r bytes) (NotMeasured Memory r bytes)
measured-value r bytes old new (Ok n) sound none still also wrote = (wrote.1, wrote.2)
measured-value r bytes old new (Err e) sound none still also (inl refused) = inl refused.0
measured-value r bytes old new (Err e) sound none still also (inr failed) = inr (fresh_cause r bytes old new e sound none still also failed)

pub measured-fields : (r : Option Unsupported) (bytes : List ℕ) (old new : Writing) (answer : Result ℕ Asn1DerError) → old.failed ≡ false → old.faults ≡ 0 → old.grows ≡ false → new.faults ≡ 0
    → MatchResult answer (WroteValue r bytes old new) (NotWroteFields r bytes old new) → MatchResult answer (Measured r bytes) (NotMeasured Memory r bytes)
measured-fields r bytes old new (Ok n) sound none still also wrote = (wrote.1, wrote.2)
measured-fields r bytes old new (Err e) sound none still also (inl refused) = inl refused.0
measured-fields r bytes old new (Err e) sound none still also (inr failed) = inr (fresh_cause None bytes old new e sound none still also failed)

refused_long : (r : Option Unsupported) (e : Asn1DerError) → RefusedAs r e → as_too_long e ≡ e
refused_long None e refused = absurd refused
refused_long (Some OneValue) e refused = ap as_too_long refused ∙ sym refused
refused_long (Some WholeType) e refused = ap as_too_long refused ∙ sym refused

pub not_measured-too_long : (r : Option Unsupported) (bytes : List ℕ) (e : Asn1DerError) → NotMeasured Memory r bytes e → NotMeasured UnsupportedValue r bytes (as_too_long e)
not_measured-too_long r bytes e (inl refused) = inl (subst (RefusedAs r) (sym (refused_long r e refused)) refused)
not_measured-too_long r bytes e (inr (memory, long)) = inr (ap as_too_long memory, long)

-- elements

pub element-header : (tag : ℕ) (content : List ℕ) (count : ℕ) (old mid new : Writing) → Wrote (tag ∷ length_octets count) old mid → length content ≡ count
    → Wrote content mid new → Wrote (element tag content) old new
element-header tag content count old mid new header is wrote =
    wrote-as ((tag ∷ length_octets count) ++ content) (element tag content) old new
    (ap (λ n. (tag ∷ length_octets n) ++ content) (sym is) ∙ sym (element-split tag content))
    (wrote-join (tag ∷ length_octets count) content old mid new header wrote)

pub element-size : (tag : ℕ) (content : List ℕ) (count whole : ℕ) → length content ≡ count → whole ≡ 1 + length (length_octets count) + count
    → whole ≡ length (element tag content)
element-size tag content count whole is sum =
    let octets : length (length_octets (length content)) ≡ length (length_octets count) = ap (λ n. length (length_octets n)) is in
    omega (arith, length-element tag content, octets, is, sum)

pub element-not_written : (r : Option Unsupported) (tag : ℕ) (content : List ℕ) (count : ℕ) (old new : Writing) (e : Asn1DerError) → length content ≡ count
    → NotWrote r ((tag ∷ length_octets count) ++ content) old new e → NotWrote r (element tag content) old new e
element-not_written r tag content count old new e is failed =
    notwrote-as r ((tag ∷ length_octets count) ++ content) (element tag content) old new e
    (ap (λ n. (tag ∷ length_octets n) ++ content) (sym is) ∙ sym (element-split tag content)) failed

-- what is written as nothing is so under a further tag
pub der-wrapped_nothing : (first : ℕ) (t : Tree) → der t ≡ [] → der (wrapped first t) ≡ []
der-wrapped_nothing first (primitive inner content) e = absurd (element-nonempty inner content e)
der-wrapped_nothing first (constructed inner parts) e = absurd (element-nonempty inner (ders parts) e)
der-wrapped_nothing first absent e = refl

-- what is written as something is an element's content
pub der-wrapped_some : (first : ℕ) (t : Tree) → (length (der t) ≡ 0 → ⊥) → der (wrapped first t) ≡ element first (der t)
der-wrapped_some first (primitive inner content) some = ap (element first) (append-nil (element inner content))
der-wrapped_some first (constructed inner parts) some = ap (element first) (append-nil (element inner (ders parts)))
der-wrapped_some first absent some = absurd (some refl)

pub length-wrapped : (first : ℕ) (t : Tree) → length (der t) ≤ length (der (wrapped first t))
length-wrapped first (primitive inner content) =
    omega (arith, length-element first (element inner content ++ []), ap length (append-nil (element inner content)))
length-wrapped first (constructed inner parts) =
    omega (arith, length-element first (element inner (ders parts) ++ []), ap length (append-nil (element inner (ders parts))))
length-wrapped first absent = omega arith

-- the same with an octet in front
pub der-behind_nothing : (first octet : ℕ) (t : Tree) → der t ≡ [] → der (behind octet (wrapped first t)) ≡ []
der-behind_nothing first octet (primitive inner content) e = absurd (element-nonempty inner content e)
der-behind_nothing first octet (constructed inner parts) e = absurd (element-nonempty inner (ders parts) e)
der-behind_nothing first octet absent e = refl

pub der-behind_some : (first octet : ℕ) (t : Tree) → (length (der t) ≡ 0 → ⊥) → der (behind octet (wrapped first t)) ≡ element first (octet ∷ der t)
der-behind_some first octet (primitive inner content) some = ap (λ l. element first (octet ∷ l)) (append-nil (element inner content))
der-behind_some first octet (constructed inner parts) some = ap (λ l. element first (octet ∷ l)) (append-nil (element inner (ders parts)))
der-behind_some first octet absent some = absurd (some refl)

pub length-behind : (first octet : ℕ) (t : Tree) → length (der t) ≤ length (der (behind octet (wrapped first t)))
length-behind first octet (primitive inner content) =
    omega (arith, length-element first (octet ∷ (element inner content ++ [])), ap length (append-nil (element inner content)))
length-behind first octet (constructed inner parts) =
    omega (arith, length-element first (octet ∷ (element inner (ders parts) ++ [])), ap length (append-nil (element inner (ders parts))))
length-behind first octet absent = omega arith

pub empty_of_length : (bytes : List ℕ) → length bytes ≡ 0 → bytes ≡ []
empty_of_length [] e = refl
empty_of_length (b ∷ bytes) e = absurd (omega arith)

pub lead_in : (a : List ℕ) (lead : ℕ) (content : List ℕ) → (a ++ lead ∷ []) ++ content ≡ a ++ (lead ∷ content)
lead_in a lead content = append_assoc a (lead ∷ []) content

pub one_longer : (lead : ℕ) (content : List ℕ) → 1 + length content ≡ length (lead ∷ content)
one_longer lead content = omega arith

-- refusals of a part, of a list and of what may be missing

pub refusal_of-part : {A B : Type 0} (part : B → A) (refusal : Option (A → Option Unsupported)) (value : B)
    → refusal_of (part_refusal part refusal) value ≡ refusal_of refusal (part value)
refusal_of-part part None value = refl
refusal_of-part part (Some refuses) value = refl

pub refusal_of-list : {A : Type 0} (refusal : Option (A → Option Unsupported)) (values : List A)
    → refusal_of (list_refusal refusal) values ≡ refusal_of_list refusal values
refusal_of-list None values = refl
refusal_of-list (Some refuses) values = refl

pub refusal_of_option-some : {A B : Type 0} (part : B → A) (refusal : Option (A → Option Unsupported)) (value : B)
    → refusal_of_option (part_refusal part refusal) (Some value) ≡ refusal_of refusal (part value)
refusal_of_option-some part None value = refl
refusal_of_option-some part (Some refuses) value = refl

pub refusal_of_option-none : {A : Type 0} (refusal : Option (A → Option Unsupported)) → refusal_of_option refusal None ≡ None
refusal_of_option-none None = refl
refusal_of_option-none (Some refuses) = refl

-- the refusals of a list to which a value is added
pub refusal_of_list-nil : {A : Type 0} (refusal : Option (A → Option Unsupported)) → refusal_of_list refusal [] ≡ None
refusal_of_list-nil None = refl
refusal_of_list-nil (Some refuses) = refl

refusal_in-append : {A : Type 0} (refuses : A → Option Unsupported) (values more : List A)
    → refusal_in refuses (values ++ more) ≡ first_refusal (refusal_in refuses values) (refusal_in refuses more)
refusal_in-append refuses [] more = refl
refusal_in-append refuses (value ∷ values) more =
    ap (first_refusal (refuses value)) (refusal_in-append refuses values more) ∙ joined (refuses value) (refusal_in refuses values) (refusal_in refuses more)
  where
    joined : (a b c : Option Unsupported) → first_refusal a (first_refusal b c) ≡ first_refusal (first_refusal a b) c
    joined None b c = refl
    joined (Some why) b c = refl

pub refusal_of_list-append : {A : Type 0} (refusal : Option (A → Option Unsupported)) (values more : List A)
    → refusal_of_list refusal (values ++ more) ≡ first_refusal (refusal_of_list refusal values) (refusal_of_list refusal more)
refusal_of_list-append None values more = refl
refusal_of_list-append (Some refuses) values more = refusal_in-append refuses values more

first_refusal-nothing : (r : Option Unsupported) → first_refusal r None ≡ r
first_refusal-nothing None = refl
first_refusal-nothing (Some why) = refl

pub refusal_of_list-cons : {A : Type 0} (refusal : Option (A → Option Unsupported)) (value : A) (values : List A)
    → refusal_of_list refusal (value ∷ values) ≡ first_refusal (refusal_of refusal value) (refusal_of_list refusal values)
refusal_of_list-cons None value values = refl
refusal_of_list-cons (Some refuses) value values = refl

-- the octets of a header fail one after another

pub header-too_long : (tag count : ℕ) (content octets : List ℕ) (old new : Writing) (e : Asn1DerError) → old.failed ≡ false → octets ≡ length_octets count → length content ≡ count
    → 2 ^ 64 ≤ 1 + length octets + count → new ≡ halted old → e ≡ Memory → NotWrote None (element tag content) old new e
header-too_long tag count content octets old new e sound spelled size long is fault =
    let octets_size : length octets ≡ length (length_octets (length content)) = ap length (spelled ∙ ap length_octets (sym size)) in
    notwrote-too_long None [] (element tag content) old old new e (wrote-nothing old sound) (0, refl)
    (omega (arith, length-element tag content, octets_size, long, size)) is fault

pub header-first : (tag : ℕ) (content : List ℕ) (old mid new : Writing) (e : Asn1DerError) → mid ≡ old → NotWrote None (tag ∷ []) mid new e
    → NotWrote None (element tag content) old new e
header-first tag content old mid new e is failed =
    subst (λ w. NotWrote None (element tag content) w new e) is
    (notwrote-as None ((tag ∷ []) ++ (length_octets (length content) ++ content)) (element tag content) mid new e (sym (element-split tag content))
    (notwrote-before None (tag ∷ []) (length_octets (length content) ++ content) mid new e failed))

pub header-rest : (tag count : ℕ) (content octets : List ℕ) (old mid low new : Writing) (e : Asn1DerError) → mid ≡ old → Wrote (tag ∷ []) mid low
    → octets ≡ length_octets count → length content ≡ count → NotWrote None octets low new e → NotWrote None (element tag content) old new e
header-rest tag count content octets old mid low new e is wrote spelled size failed =
    subst (λ w. NotWrote None (element tag content) w new e) is
    (notwrote-as None (((tag ∷ []) ++ octets) ++ content) (element tag content) mid new e
    (ap (λ l. (tag ∷ l) ++ content) (spelled ∙ ap length_octets (sym size)) ∙ sym (element-split tag content))
    (notwrote-before None ((tag ∷ []) ++ octets) content mid new e (notwrote-after None (tag ∷ []) octets mid low new e wrote failed)))

-- a length below 128 is one octet

pub header-short : (tag count : ℕ) (content : List ℕ) (old new : Writing) (e : Asn1DerError) → count < 128 → length content ≡ count
    → NotWrote None (tag ∷ count ∷ []) old new e → NotWrote None (element tag content) old new e
header-short tag count content old new e short size failed =
    notwrote-as None ((tag ∷ count ∷ []) ++ content) (element tag content) old new e
    (ap (λ l. (tag ∷ l) ++ content) (sym (length_octets-short count short) ∙ ap length_octets (sym size)) ∙ sym (element-split tag content))
    (notwrote-before None (tag ∷ count ∷ []) content old new e failed)

pub wrote-short : (tag count : ℕ) (old new : Writing) → count < 128 → Wrote (tag ∷ count ∷ []) old new
    → Wrote (tag ∷ length_octets count) old new × (2 + count ≡ 1 + length (length_octets count) + count)
wrote-short tag count old new short wrote =
    let is : length_octets count ≡ count ∷ [] = length_octets-short count short in
    (wrote-as (tag ∷ count ∷ []) (tag ∷ length_octets count) old new (ap (λ l. tag ∷ l) (sym is)) wrote, omega (arith, ap length is))

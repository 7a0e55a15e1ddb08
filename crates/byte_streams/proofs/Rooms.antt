-- The room of a sink, of which writes take part by part.
use Rattle.std.proofs.Common.{◌≡◌, ℕ, ◌+◌, ◌-◌, ◌<◌, ◌≤◌, Option, None, Some, Ok, Err, refl, ap, ◌∙◌, arith}
use Rattle.byte_streams.specs.Room.{TakesRoom, TakenRoom, FitsRoom, IsPast, IsUnbounded}
use Rattle.byte_streams.specs.declared.sink.SinkFault.{SinkFault}
use Rattle.byte_streams.specs.declared.exact.WholeFault.{WholeFault}
use Rattle.byte_streams.specs.declared.exact.WholeFault.TheVariants.{Full}

pub taken_room-none : (old : Option ℕ) → TakenRoom old old 0
taken_room-none None = tt
taken_room-none (Some room) = (omega arith, ap Some (omega arith))

pub taken_room-more : (old mid new : Option ℕ) (at n offered : ℕ) → TakenRoom old mid at → TakesRoom mid new (Ok n) offered → TakenRoom old new (at + n)
taken_room-more None mid new at n offered before took = tt
taken_room-more (Some room) None new at n offered before took = absurd (cc (before.1))
taken_room-more (Some room) (Some left) new at n offered before took =
    let is : left ≡ room - at = cc (before.1) in
    (omega (arith, is, before.0, took.0), took.1 ∙ ap Some (omega (arith, is, before.0, took.0)))

pub fits_room-all : {T : Type 0} (old new : Option ℕ) (r : T) (at size : ℕ) → TakenRoom old new at → at ≡ size → FitsRoom old new (Ok r) size
fits_room-all None new r at size taken is = tt
fits_room-all (Some room) new r at size taken is = (omega (arith, taken.0, is), taken.1 ∙ ap Some (omega (arith, is)))

pub fits_room-full : (T : Type 0) (old mid new : Option ℕ) (at size offered : ℕ) → TakenRoom old mid at → TakesRoom mid new (Ok 0) offered
    → 0 < offered → at < size → FitsRoom {T = T} old new (Err Full) size
fits_room-full T None mid new at size offered taken took some more = tt
fits_room-full T (Some room) None new at size offered taken took some more = absurd (cc (taken.1))
fits_room-full T (Some room) (Some left) new at size offered taken took some more =
    let is : left ≡ room - at = cc (taken.1) in
    (refl, omega (arith, is, took.2 refl some, taken.0, more))

-- where the room is known no write fails
pub fits_room-failed : (T : Type 0) (old mid new : Option ℕ) (at size offered : ℕ) (fault : SinkFault) (stop : WholeFault) → TakenRoom old mid at
    → TakesRoom mid new (Err fault) offered → FitsRoom {T = T} old new (Err stop) size
fits_room-failed T None mid new at size offered fault stop taken took = tt
fits_room-failed T (Some room) None new at size offered fault stop taken took = absurd (cc (taken.1))
fits_room-failed T (Some room) (Some left) new at size offered fault stop taken took = absurd took

-- what a whole write did, said of its parts
pub taken_room-whole : (T : Type 0) (old new : Option ℕ) (r : T) (size : ℕ) → FitsRoom {T = T} old new (Ok r) size → TakenRoom old new size
taken_room-whole T None new r size fits = tt
taken_room-whole T (Some room) new r size fits = fits

pub past-whole : (T : Type 0) (old new : Option ℕ) (fault : WholeFault) (size : ℕ) → FitsRoom {T = T} old new (Err fault) size → IsPast old size
past-whole T None new fault size fits = tt
past-whole T (Some room) new fault size fits = fits.1

pub taken_room-join : (old mid new : Option ℕ) (m n : ℕ) → TakenRoom old mid m → TakenRoom mid new n → TakenRoom old new (m + n)
taken_room-join None mid new m n p q = tt
taken_room-join (Some room) None new m n p q = absurd (cc (p.1))
taken_room-join (Some room) (Some left) new m n p q =
    let is : left ≡ room - m = cc (p.1) in
    (omega (arith, is, p.0, q.0), q.1 ∙ ap Some (omega (arith, is, p.0, q.0)))

pub past-after : (old mid : Option ℕ) (m n : ℕ) → TakenRoom old mid m → IsPast mid n → IsPast old (m + n)
past-after None mid m n p q = tt
past-after (Some room) None m n p q = absurd (cc (p.1))
past-after (Some room) (Some left) m n p q =
    let is : left ≡ room - m = cc (p.1) in
    omega (arith, is, p.0, q)

pub past-more : (old : Option ℕ) (m n : ℕ) → m ≤ n → IsPast old m → IsPast old n
past-more None m n more past = tt
past-more (Some room) m n more past = omega (arith, past, more)

pub unbounded-after : (old mid : Option ℕ) (m : ℕ) → TakenRoom old mid m → IsUnbounded mid → IsUnbounded old
unbounded-after None mid m p q = tt
unbounded-after (Some room) None m p q = absurd (cc (p.1))
unbounded-after (Some room) (Some left) m p q = q

-- where the room is known a whole write stops for want of it alone
pub unbounded-whole : (T : Type 0) (old new : Option ℕ) (fault : WholeFault) (size : ℕ) → FitsRoom {T = T} old new (Err fault) size → (fault ≡ Full → ⊥) → IsUnbounded old
unbounded-whole T None new fault size fits other = tt
unbounded-whole T (Some room) new fault size fits other = other fits.0

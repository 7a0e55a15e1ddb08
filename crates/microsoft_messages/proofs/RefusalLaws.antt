-- Why a PAC was not read from a device, from what its bytes were refused for.
use Rattle.std.proofs.Common.{◌≡◌, ℕ, List, ◌++◌, Option, None, Some, IfSome, Result, Ok, Err, IsErrAnd, MatchResult, ◌⊎◌, inl, inr, refl, ap, sym, subst, ◌∙◌, append-nil}
use Rattle.std.specs.Bool.{⊤}
use Rattle.std.specs.Io.KnownBytes.{Consumes, IsAtEnd}
use Rattle.std.specs.declared.io.ErrorKind.{ErrorKind}
use Rattle.byte_streams.specs.Stops.{IsStop}
use Rattle.byte_streams.proofs.Exits.{at-exit}
use Rattle.microsoft_messages.specs.declared.pac.pac.Pac.{Pac}
use Rattle.microsoft_messages.specs.declared.pac.error.PacError.{PacError}
use Rattle.microsoft_messages.specs.declared.pac.error.PacError.TheVariants.{IoError, Memory}
use Rattle.microsoft_messages.specs.Buffers.{Buffer, pac_buffers, IsPac, AllFit}
use Rattle.microsoft_messages.specs.PacReading.{pac_at}
use Rattle.microsoft_messages.specs.Refusals.{IsBroken, IsExcuse, IsRefusal}
use Rattle.microsoft_messages.proofs.PacReadingLaws.{Extends, pac-extends}
use Rattle.microsoft_messages.proofs.OnlyLaws.{pac-only}

-- the device failed, and in what came before nothing else is wrong
broken : (whole front : List ℕ) (after : Option (List ℕ)) (k : ErrorKind) (old new : ℕ) (last : Option ErrorKind) → Consumes (Some whole) after front
    → IsStop old new last (Some k) → MatchResult (pac_at (Some k) front) (λ _. ⊤) (λ e. e ≡ IoError k) → IsBroken whole after old new last (IoError k)
broken whole front after k old new last given stopped fine =
    record {
      device = record { cause = k; answered = refl; counted = stopped.0; told = stopped.1 };
      came = front;
      taken = given;
      fine = fine;
    }

-- bytes that a device cut and that were refused
cut-refused : (whole front rest : List ℕ) (k : ErrorKind) (old new : ℕ) (last : Option ErrorKind) (e : PacError) → whole ≡ front ++ rest
    → IsStop old new last (Some k) → pac_at (Some k) front ≡ Err e → IsRefusal whole (Some rest) old new last e
cut-refused whole front rest k old new last e given stopped wrong =
    let extends : (e ≡ IoError k) ⊎ (pac_at None (front ++ rest) ≡ Err e) =
    subst (λ (r : Result (List Buffer) PacError). Extends k r (pac_at None (front ++ rest))) wrong (pac-extends k front rest) in
    elim extends [
      | inl cut ↦
          let fine : MatchResult (pac_at (Some k) front) (λ _. ⊤) (λ f. f ≡ IoError k) =
          subst (λ (r : Result (List Buffer) PacError). MatchResult r (λ _. ⊤) (λ f. f ≡ IoError k)) (sym wrong) cut in
          inr (inr (subst (IsBroken whole (Some rest) old new last) (sym cut) (broken whole front (Some rest) k old new last given stopped fine)))
      | inr told ↦ inl (ap (pac_at None) given ∙ told)
    ]

pub pac-refused : (left after : Option (List ℕ)) (fault last : Option ErrorKind) (old new : ℕ) (front : List ℕ) (e : PacError)
    → Consumes left after front → (fault ≡ None → IsAtEnd after) → IsStop old new last fault
    → (e ≡ Memory) ⊎ (pac_at fault front ≡ Err e)
    → IfSome left (λ whole. IsRefusal whole after old new last e)
pac-refused None after fault last old new front e given ends stopped why = tt
pac-refused (Some whole) None fault last old new front e given ends stopped why = absurd given
pac-refused (Some whole) (Some rest) fault last old new front e given ends stopped (inl memory) = inr (inl memory)
pac-refused (Some whole) (Some rest) None last old new front e given ends stopped (inr wrong) =
    let all : whole ≡ front = given ∙ ap (λ (l : List ℕ). front ++ l) (ends refl) ∙ append-nil front in
    inl (ap (pac_at None) all ∙ wrong)
pac-refused (Some whole) (Some rest) (Some k) last old new front e given ends stopped (inr wrong) =
    cut-refused whole front rest k old new last e given stopped wrong

-- a device that failed behind a whole PAC
pub pac-broken : (left after : Option (List ℕ)) (fault last : Option ErrorKind) (old new : ℕ) (front : List ℕ) (k : ErrorKind) (bs : List Buffer)
    → Consumes left after front → fault ≡ Some k → IsStop old new last fault → pac_at fault front ≡ Ok bs
    → IfSome left (λ whole. IsExcuse whole after old new last (IoError k))
pac-broken None after fault last old new front k bs given is stopped fine = tt
pac-broken (Some whole) after fault last old new front k bs given is stopped fine =
    let fine_here : MatchResult (pac_at (Some k) front) (λ _. ⊤) (λ e. e ≡ IoError k) =
    subst (λ (r : Result (List Buffer) PacError). MatchResult r (λ _. ⊤) (λ e. e ≡ IoError k))
    (sym (ap (λ (f : Option ErrorKind). pac_at f front) (sym is) ∙ fine)) tt in
    inr (broken whole front after k old new last given (subst (IsStop old new last) is stopped) fine_here)

-- an excuse is a refusal
pub excused-refused : (left after : Option (List ℕ)) (last : Option ErrorKind) (old new : ℕ) (e : PacError)
    → IfSome left (λ whole. IsExcuse whole after old new last e) → IfSome left (λ whole. IsRefusal whole after old new last e)
excused-refused None after last old new e excuse = tt
excused-refused (Some whole) after last old new e excuse = inr excuse

-- an excuse, whatever is laid out
pub excused-only : (left after : Option (List ℕ)) (last : Option ErrorKind) (old new : ℕ) (e : PacError)
    → IfSome left (λ whole. IsExcuse whole after old new last e)
    → IfSome left (λ whole. (bs : List Buffer) → AllFit bs → IsPac bs whole → IsExcuse whole after old new last e)
excused-only None after last old new e excuse = tt
excused-only (Some whole) after last old new e excuse = λ bs fit is. excuse

-- where a PAC is laid out, a refusal is an excuse
pub refused-only : (left after : Option (List ℕ)) (r : Result Pac PacError) (last : Option ErrorKind) (old new : ℕ) (e : PacError)
    → IsErrAnd r (λ y. y ≡ e) → IfSome left (λ whole. IsRefusal whole after old new last e)
    → IfSome left (λ whole. (bs : List Buffer) → AllFit bs → IsPac bs whole → MatchResult r (λ p. pac_buffers p ≡ bs) (IsExcuse whole after old new last))
refused-only None after r last old new e exit refusal = tt
refused-only (Some whole) after r last old new e exit refusal =
    λ bs fit is. at-exit r e (λ p. pac_buffers p ≡ bs) (IsExcuse whole after old new last) exit
    (elim refusal [ inl wrong ↦ absurd (let fine = pac-only bs whole fit is in cc (fine, wrong)) | inr excuse ↦ excuse ])

-- where a PAC is laid out, it is the one that is read
pub given-only : (left after : Option (List ℕ)) (front : List ℕ) (fault : Option ErrorKind) (read : List Buffer)
    → Consumes left after front → (fault ≡ None → IsAtEnd after) → fault ≡ None → pac_at fault front ≡ Ok read
    → IfSome left (λ whole. (bs : List Buffer) → AllFit bs → IsPac bs whole → read ≡ bs)
given-only None after front fault read given ends is told = tt
given-only (Some whole) None front fault read given ends is told = absurd given
given-only (Some whole) (Some rest) front fault read given ends is told =
    λ bs fit laid.
    let all : whole ≡ front = given ∙ ap (λ (l : List ℕ). front ++ l) (ends is) ∙ append-nil front in
    let again : pac_at None whole ≡ Ok bs = pac-only bs whole fit laid in
    let here : pac_at None whole ≡ Ok read = ap (pac_at None) all ∙ ap (λ (f : Option ErrorKind). pac_at f front) (sym is) ∙ told in
    cc (again, here)

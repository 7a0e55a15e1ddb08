-- What reading from the front of an input answers.
use Rattle.std.proofs.Common.{◌≡◌, ◌⊎◌, ℕ, List, [], ◌∷◌, ◌++◌, length, Some, Result, Ok, Err, MatchResult, IfErr, inl, inr, refl, sym, ap, subst, ◌∙◌, ◌≤◌, arith, length-append, append-nil}
use Rattle.asn1_der.specs.declared.error.Asn1DerError.{Asn1DerError}
use Rattle.asn1_der.specs.declared.error.Asn1DerError.TheVariants.{Memory, Other, TruncatedData, InvalidData, UnsupportedValue, UnsupportedType, InvalidSink, Message}
use Rattle.std.specs.declared.io.ErrorKind.{ErrorKind}
use Rattle.asn1_der.specs.Seen.{Seen, as_is, by, Alike}
use Rattle.asn1_codec.specs.Reading.{Reading, TookBy, Refused, IsReadBy, IsLastBy, IsExcuse, IsMissing, IsOwn, faults_after, whole_input}
use Rattle.asn1_codec.specs.Reads.{Gives, IsOneValue, BeginsBy, ReadsFront, ReadsWhole}
use Rattle.asn1_codec.proofs.Chain.{consumed, cause_of}

pub gives-ok : {T : Type 0} (seen : Seen T) (got value : T) → Alike seen got value → Gives seen (Ok got) value
gives-ok as_is got value e = ap Ok e
gives-ok (by V view) got value e = e

pub gives-none : {T : Type 0} (seen : Seen T) (fault : Asn1DerError) (value : T) → Gives seen (Err fault) value → ⊥
gives-none as_is fault value e = cc (e)
gives-none (by V view) fault value e = e

-- a value was read
reads-value : {T : Type 0} (seen : Seen T) (reads : T → List ℕ → Type 0) → IsOneValue seen reads → (value : T) (input : List ℕ) (old new : Reading) → old ≡ whole_input input
    → TookBy reads value old new → ReadsFront seen reads input (Ok value)
reads-value seen reads one value input old new is took =
    let rest = consumed old.left new.left took.0 input took.2.left (ap (λ r. r.left) is) in
    inr (λ other. (
      λ same. subst (λ v. BeginsBy reads v input) (cc (same)) (took.0, rest.0, took.1, rest.2),
      λ begins. gives-ok seen value other (one value other took.0 begins.0 rest.0 begins.1 took.1 begins.2 (sym rest.2 ∙ begins.3)).0,
    ))

no_value : {T : Type 0} (seen : Seen T) (reads : T → List ℕ → Type 0) (input : List ℕ) (fault : Asn1DerError) → ((value : T) → BeginsBy reads value input → ⊥)
    → ReadsFront {T = T} seen reads input (Err fault)
no_value seen reads input fault none = inr (λ value. (λ same. absurd (cc (same)), λ begins. absurd (none value begins)))

missing_value : {T : Type 0} (seen : Seen T) (reads : T → List ℕ → Type 0) (input : List ℕ) (old : Reading) (fault : Asn1DerError) → old ≡ whole_input input
    → IsMissing (IsReadBy reads) old → ReadsFront {T = T} seen reads input (Err fault)
missing_value seen reads input old fault is missing =
    no_value seen reads input fault (λ value begins.
    let within : length begins.0 ≤ old.limit = omega (arith, ap length begins.3, length-append begins.0 begins.1, ap (λ r. r.limit) is) in
    missing begins.0 begins.1 (value, begins.2) (ap (λ r. r.left) is ∙ ap Some begins.3) within)

-- no device fails where no failure was counted
no_device : (k : ErrorKind) (fault : Asn1DerError) → 0 ≡ faults_after fault 0 → fault ≡ Other k → ⊥
no_device k fault counted is = absurd (omega (arith, counted ∙ ap (λ f. faults_after f 0) is))

own_where_none : (fault : Asn1DerError) → 0 ≡ faults_after fault 0 → IsOwn fault
own_where_none TruncatedData counted = tt
own_where_none InvalidData counted = tt
own_where_none UnsupportedValue counted = tt
own_where_none UnsupportedType counted = tt
own_where_none InvalidSink counted = tt
own_where_none (Message rule) counted = tt
own_where_none (Other kind) counted = no_device kind (Other kind) counted refl
own_where_none Memory counted = tt

-- over an input in memory no fault is a device's
own_fault : (P : List ℕ → Type 0) (input : List ℕ) (old new : Reading) (fault : Asn1DerError) → old ≡ whole_input input → new.faults ≡ 0
    → Refused P old new fault → IsOwn fault
own_fault P input old new fault is none refused =
    own_where_none fault (sym none ∙ refused.faults ∙ ap (λ r. faults_after fault r.faults) is)

by_cause : {T : Type 0} (seen : Seen T) (reads : T → List ℕ → Type 0) (input : List ℕ) (old : Reading) (fault : Asn1DerError) → old ≡ whole_input input → IsOwn fault
    → IsExcuse fault → ReadsFront {T = T} seen reads input (Err fault)
by_cause seen reads input old Memory is own excuse = inl refl
by_cause seen reads input old (Other k) is own excuse = absurd own
by_cause seen reads input old TruncatedData is own excuse = absurd excuse
by_cause seen reads input old InvalidData is own excuse = absurd excuse
by_cause seen reads input old UnsupportedValue is own excuse = absurd excuse
by_cause seen reads input old UnsupportedType is own excuse = absurd excuse
by_cause seen reads input old InvalidSink is own excuse = absurd excuse
by_cause seen reads input old (Message text) is own excuse = absurd excuse

front_cause : {T : Type 0} (seen : Seen T) (reads : T → List ℕ → Type 0) (input : List ℕ) (old : Reading) (fault : Asn1DerError) → old ≡ whole_input input → IsOwn fault
    → IsExcuse fault ⊎ IsMissing (IsReadBy reads) old → ReadsFront {T = T} seen reads input (Err fault)
front_cause seen reads input old fault is own (inl excuse) = by_cause seen reads input old fault is own excuse
front_cause seen reads input old fault is own (inr missing) = missing_value seen reads input old fault is missing

-- a value was refused, and no call of the source failed
reads-refused : {T : Type 0} (seen : Seen T) (reads : T → List ℕ → Type 0) (input : List ℕ) (old new : Reading) (fault : Asn1DerError) → old ≡ whole_input input → new.faults ≡ 0
    → Refused (IsReadBy reads) old new fault → ReadsFront {T = T} seen reads input (Err fault)
reads-refused seen reads input old new fault is none refused =
    front_cause seen reads input old fault is (own_fault (IsReadBy reads) input old new fault is none refused)
    (cause_of (IsReadBy reads) old fault (ap (λ r. r.failed) is) refused.cause)

none_left : (rest : List ℕ) → length rest ≡ 0 → rest ≡ []
none_left [] e = refl
none_left (r ∷ rest) e = absurd (omega arith)

-- a value was read, and nothing is left
reads_all-value : {T : Type 0} (seen : Seen T) (reads : T → List ℕ → Type 0) → IsOneValue seen reads → (value : T) (input : List ℕ) (old new : Reading) → old ≡ whole_input input
    → TookBy reads value old new → new.limit ≡ 0 → ReadsWhole seen reads input (Ok value)
reads_all-value seen reads one value input old new is took done =
    let rest = consumed old.left new.left took.0 input took.2.left (ap (λ r. r.left) is) in
    let sizes : length rest.0 ≡ 0 = omega (arith, took.2.limit, done, ap (λ r. r.limit) is, ap length rest.2, length-append took.0 rest.0) in
    let all : input ≡ took.0 = rest.2 ∙ ap (λ l. took.0 ++ l) (none_left rest.0 sizes) ∙ append-nil took.0 in
    inr (λ other. (
      λ same. subst (λ v. reads v input) (cc (same)) (subst (reads value) (sym all) took.1),
      λ also. gives-ok seen value other (one value other took.0 input [] [] took.1 also (ap (λ l. l ++ []) (sym all))).0,
    ))

missing_all : {T : Type 0} (seen : Seen T) (reads : T → List ℕ → Type 0) (input : List ℕ) (old : Reading) (fault : Asn1DerError) → old ≡ whole_input input
    → IsMissing (IsLastBy reads old.limit) old → ReadsWhole {T = T} seen reads input (Err fault)
missing_all seen reads input old fault is missing =
    inr (λ value. (
      λ same. absurd (cc (same)),
      λ also.
          let size : length input ≡ old.limit = sym (ap (λ r. r.limit) is) in
          let fits : length input ≤ old.limit = omega (arith, size) in
          absurd (missing input [] (value, also, size) (ap (λ r. r.left) is ∙ ap Some (sym (append-nil input))) fits),
    ))

-- memory ran out, or bytes are missing: a source that counted no failure isn't the cause
by_cause_all : {T : Type 0} (seen : Seen T) (reads : T → List ℕ → Type 0) (input : List ℕ) (fault : Asn1DerError) → IsOwn fault → IsExcuse fault → ReadsWhole {T = T} seen reads input (Err fault)
by_cause_all seen reads input Memory own excuse = inl refl
by_cause_all seen reads input (Other k) own excuse = absurd own
by_cause_all seen reads input TruncatedData own excuse = absurd excuse
by_cause_all seen reads input InvalidData own excuse = absurd excuse
by_cause_all seen reads input UnsupportedValue own excuse = absurd excuse
by_cause_all seen reads input UnsupportedType own excuse = absurd excuse
by_cause_all seen reads input InvalidSink own excuse = absurd excuse
by_cause_all seen reads input (Message text) own excuse = absurd excuse

all_cause : {T : Type 0} (seen : Seen T) (reads : T → List ℕ → Type 0) (input : List ℕ) (old : Reading) (fault : Asn1DerError) → old ≡ whole_input input → IsOwn fault
    → IsExcuse fault ⊎ IsMissing (IsLastBy reads old.limit) old → ReadsWhole {T = T} seen reads input (Err fault)
all_cause seen reads input old fault is own (inl excuse) = by_cause_all seen reads input fault own excuse
all_cause seen reads input old fault is own (inr missing) = missing_all seen reads input old fault is missing

reads_all-refused : {T : Type 0} (seen : Seen T) (reads : T → List ℕ → Type 0) (input : List ℕ) (old new : Reading) (fault : Asn1DerError) → old ≡ whole_input input → new.faults ≡ 0
    → Refused (IsLastBy reads old.limit) old new fault → ReadsWhole {T = T} seen reads input (Err fault)
reads_all-refused seen reads input old new fault is none refused =
    all_cause seen reads input old fault is (own_fault (IsLastBy reads old.limit) input old new fault is none refused)
    (cause_of (IsLastBy reads old.limit) old fault (ap (λ r. r.failed) is) refused.cause)

-- what was answered, a value or a refusal, where no call of the source failed
pub reads-answer : {T : Type 0} (seen : Seen T) (reads : T → List ℕ → Type 0) → IsOneValue seen reads → (answer : Result T Asn1DerError) (input : List ℕ) (old new : Reading)
    → old ≡ whole_input input → new.faults ≡ 0
    → MatchResult answer (λ value. TookBy reads value old new) (λ fault. Refused (IsReadBy reads) old new fault) → ReadsFront seen reads input answer
reads-answer seen reads one (Ok value) input old new is none read = reads-value seen reads one value input old new is read
reads-answer seen reads one (Err fault) input old new is none read = reads-refused seen reads input old new fault is none read

pub reads_all-answer : {T : Type 0} (seen : Seen T) (reads : T → List ℕ → Type 0) → IsOneValue seen reads → (answer : Result T Asn1DerError) (input : List ℕ) (old new : Reading)
    → old ≡ whole_input input → new.faults ≡ 0
    → MatchResult answer (λ value. TookBy reads value old new × (new.limit ≡ 0)) (λ fault. Refused (IsLastBy reads old.limit) old new fault)
    → ReadsWhole seen reads input answer
reads_all-answer seen reads one (Ok value) input old new is none read = reads_all-value seen reads one value input old new is read.0 read.1
reads_all-answer seen reads one (Err fault) input old new is none read = reads_all-refused seen reads input old new fault is none read

pub own-answer : {T : Type 0} (P : T → Type 0) (Q : List ℕ → Type 0) (answer : Result T Asn1DerError) (input : List ℕ) (old new : Reading)
    → old ≡ whole_input input → new.faults ≡ 0 → MatchResult answer P (λ fault. Refused Q old new fault) → IfErr answer IsOwn
own-answer P Q (Ok value) input old new is none read = tt
own-answer P Q (Err fault) input old new is none read = own_fault Q input old new fault is none read

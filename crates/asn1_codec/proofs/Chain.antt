-- How what calls of a deserializer did adds up: a value after another, a refusal after a value.
use Rattle.std.proofs.Common.{◌≡◌, ◌⊎◌, ℕ, ◌+◌, ◌≤◌, true, false, List, [], ◌++◌, length, Option, None, Some, inl, inr, refl, sym, ap, subst, ◌∙◌, arith, length-append, append_assoc, append-nil, ◌<◌, Result, Ok, Err, IsErrAnd, MatchResult}
use Rattle.std.specs.Io.KnownBytes.{Consumes, Keeps, IsAtEnd}
use Rattle.std.proofs.KnownBytes.{Consumes-trans, Consumes-nil}
use Rattle.asn1_der.specs.declared.error.Asn1DerError.{Asn1DerError}
use Rattle.asn1_der.specs.declared.error.Asn1DerError.TheVariants.{TruncatedData, InvalidData, UnsupportedValue, UnsupportedType, InvalidSink, Message, Other, Memory}
use Rattle.asn1_codec.specs.Reading.{Reading, Took, Passed, TookNone, Refused, IsMissing, IsExcuse, IsOwn, TellsKind, faults_after, stopped, within}
use Rattle.std.specs.declared.io.ErrorKind.{ErrorKind}

-- a fault of its own adds no failed call, and is of no kind of the source's
pub own-faults : (e : Asn1DerError) (n : ℕ) → IsOwn e → faults_after e n ≡ n
own-faults TruncatedData n own = refl
own-faults InvalidData n own = refl
own-faults UnsupportedValue n own = refl
own-faults UnsupportedType n own = refl
own-faults InvalidSink n own = refl
own-faults (Message rule) n own = refl
own-faults (Other kind) n own = absurd own
own-faults Memory n own = refl

pub own-kind : (e : Asn1DerError) (last : Option ErrorKind) → IsOwn e → TellsKind e last
own-kind TruncatedData last own = tt
own-kind InvalidData last own = tt
own-kind UnsupportedValue last own = tt
own-kind UnsupportedType last own = tt
own-kind InvalidSink last own = tt
own-kind (Message rule) last own = tt
own-kind (Other kind) last own = absurd own
own-kind Memory last own = tt

pub passed-of : (a : List ℕ) (old new : Reading) → Took a old new → Passed a old new
passed-of a old new p = record {
  left = p.left;
  limit = p.limit;
  sound_before = p.sound_before;
  sound_after = p.sound_after;
  faults = p.faults;
  same = p.same;
}

-- no octet that follows what was taken is looked at
pub took-of : (a : List ℕ) (old new : Reading) → Passed a old new → new.looked ≡ false → Took a old new
took-of a old new p unlooked = record {
  left = p.left;
  limit = p.limit;
  sound_before = p.sound_before;
  sound_after = p.sound_after;
  looked = unlooked;
  faults = p.faults;
  same = p.same;
}

pub passed-join : (a b : List ℕ) (old mid new : Reading) → Passed a old mid → Took b mid new → Took (a ++ b) old new
passed-join a b old mid new p q = record {
  left = Consumes-trans old.left mid.left new.left a b p.left q.left;
  limit = omega (arith, p.limit, q.limit, length-append a b);
  sound_before = p.sound_before;
  sound_after = q.sound_after;
  looked = q.looked;
  faults = q.faults ∙ p.faults;
  same = q.same ∙ p.same;
}

pub took-join : (a b : List ℕ) (old mid new : Reading) → Took a old mid → Took b mid new → Took (a ++ b) old new
took-join a b old mid new p q = passed-join a b old mid new (passed-of a old mid p) q

pub passed-as : (a b : List ℕ) (old new : Reading) → a ≡ b → Passed a old new → Passed b old new
passed-as a b old new e p = subst (λ x. Passed x old new) e p

pub took-as : (a b : List ℕ) (old new : Reading) → a ≡ b → Took a old new → Took b old new
took-as a b old new e p = subst (λ x. Took x old new) e p

-- what known bytes are consumed of
pub consumed : (old new : Option (List ℕ)) (a xs : List ℕ) → Consumes old new a → old ≡ Some xs → (ys : List ℕ) × (new ≡ Some ys) × (xs ≡ a ++ ys)
consumed None new a xs p e = absurd (cc (e))
consumed (Some zs) None a xs p e = absurd p
consumed (Some zs) (Some ys) a xs p e = (ys, refl, cc (e, p))

kept : (old new : Option (List ℕ)) (xs : List ℕ) → Keeps old new → old ≡ Some xs → new ≡ Some xs
kept None new xs p e = absurd (cc (e))
kept (Some zs) None xs p e = absurd p
kept (Some zs) (Some ys) xs p e = cc (e, p)

-- what is kept and then consumed is consumed
kept_consumed : (old mid new : Option (List ℕ)) (b : List ℕ) → Keeps old mid → Consumes mid new b → Consumes old new b
kept_consumed None mid new b p q = tt
kept_consumed (Some x) None new b p q = absurd p
kept_consumed (Some x) (Some y) None b p q = absurd q
kept_consumed (Some x) (Some y) (Some z) b p q = sym p ∙ q

-- where no call was refused, the cause is an excuse or missing bytes
pub cause_of : (P : List ℕ → Type 0) (r : Reading) (e : Asn1DerError) → r.failed ≡ false
    → (r.failed ≡ true) ⊎ (IsExcuse e ⊎ IsMissing P r) → IsExcuse e ⊎ IsMissing P r
cause_of P r e sound (inl failed) = absurd (cc (sound, failed))
cause_of P r e sound (inr cause) = cause

-- after the bytes `a` were taken, expected bytes `P` continue with bytes `Q`
abbrev pub Cuts : (P Q : List ℕ → Type 0) → List ℕ → ℕ → Type 0
Cuts P Q a limit = (bytes rest more : List ℕ) → P bytes → bytes ++ rest ≡ a ++ more → length bytes ≤ limit
    → (c d : List ℕ) × Q c × (more ≡ c ++ d) × (length a + length c ≤ length bytes)

after_cause : (P Q : List ℕ → Type 0) (a : List ℕ) (old mid : Reading) (e : Asn1DerError) → Passed a old mid
    → Cuts P Q a old.limit
    → IsExcuse e ⊎ IsMissing Q mid → IsExcuse e ⊎ IsMissing P old
after_cause P Q a old mid e took cut (inl excuse) = inl excuse
after_cause P Q a old mid e took cut (inr missing) =
    inr (λ bytes rest p left within.
    let left_then = consumed old.left mid.left a (bytes ++ rest) took.left left in
    let parts = cut bytes rest left_then.0 p left_then.2 within in
    let fits : length parts.0 ≤ mid.limit = omega (arith, took.limit, within, parts.4) in
    missing parts.0 parts.1 parts.2 (left_then.1 ∙ ap Some parts.3) fits)

-- bytes were taken, and then a refusal came
pub refused-passed : (P Q : List ℕ → Type 0) (a : List ℕ) (old mid new : Reading) (e : Asn1DerError) → Passed a old mid → Refused Q mid new e
    → Cuts P Q a old.limit
    → Refused P old new e
refused-passed P Q a old mid new e took refused cut = record {
  failed = refused.failed;
  faults = refused.faults ∙ ap (faults_after e) took.faults;
  kind = refused.kind;
  same = refused.same ∙ took.same;
  again = λ failed. absurd (cc (took.sound_before, failed));
  cause = inr (after_cause P Q a old mid e took cut (cause_of Q mid e took.sound_after refused.cause));
}

pub refused-after : (P Q : List ℕ → Type 0) (a : List ℕ) (old mid new : Reading) (e : Asn1DerError) → Took a old mid → Refused Q mid new e
    → Cuts P Q a old.limit
    → Refused P old new e
refused-after P Q a old mid new e took refused cut = refused-passed P Q a old mid new e (passed-of a old mid took) refused cut

none_cause : (P : List ℕ → Type 0) (old mid : Reading) (e : Asn1DerError) → TookNone old mid
    → IsExcuse e ⊎ IsMissing P mid → IsExcuse e ⊎ IsMissing P old
none_cause P old mid e none (inl excuse) = inl excuse
none_cause P old mid e none (inr missing) =
    inr (λ bytes rest p left within.
    let fits : length bytes ≤ mid.limit = omega (arith, none.limit, within) in
    missing bytes rest p (kept old.left mid.left (bytes ++ rest) none.left left) fits)

pub refused-unread : (P : List ℕ → Type 0) (old mid new : Reading) (e : Asn1DerError) → TookNone old mid → Refused P mid new e → Refused P old new e
refused-unread P old mid new e none refused = record {
  failed = refused.failed;
  faults = refused.faults ∙ ap (faults_after e) none.faults;
  kind = refused.kind;
  same = refused.same ∙ none.same;
  again = λ failed. absurd (cc (none.sound_before, failed));
  cause = inr (none_cause P old mid e none (cause_of P mid e none.sound_after refused.cause));
}

pub took-unread : (b : List ℕ) (old mid new : Reading) → TookNone old mid → Took b mid new → Took b old new
took-unread b old mid new none took = record {
  left = kept_consumed old.left mid.left new.left b none.left took.left;
  limit = omega (arith, none.limit, took.limit);
  sound_before = none.sound_before;
  sound_after = took.sound_after;
  looked = took.looked;
  faults = took.faults ∙ none.faults;
  same = took.same ∙ none.same;
}

front_cause : (P Q : List ℕ → Type 0) (old : Reading) (e : Asn1DerError)
    → ((bytes : List ℕ) → P bytes → (c d : List ℕ) × Q c × (bytes ≡ c ++ d))
    → (old.failed ≡ true) ⊎ (IsExcuse e ⊎ IsMissing Q old) → (old.failed ≡ true) ⊎ (IsExcuse e ⊎ IsMissing P old)
front_cause P Q old e front (inl failed) = inl failed
front_cause P Q old e front (inr (inl excuse)) = inr (inl excuse)
front_cause P Q old e front (inr (inr missing)) =
    inr (inr (λ bytes rest p left within.
    let parts = front bytes p in
    let fits : length parts.0 ≤ old.limit = omega (arith, within, ap length parts.3, length-append parts.0 parts.1) in
    missing parts.0 (parts.1 ++ rest) parts.2 (left ∙ ap (λ l. Some (l ++ rest)) parts.3 ∙ ap Some (append_assoc parts.0 parts.1 rest)) fits))

-- refusing `Q` refuses `P`, if all bytes of `P` begin with bytes of `Q`
pub refused-front : (P Q : List ℕ → Type 0) (old new : Reading) (e : Asn1DerError) → Refused Q old new e
    → ((bytes : List ℕ) → P bytes → (c d : List ℕ) × Q c × (bytes ≡ c ++ d)) → Refused P old new e
refused-front P Q old new e refused front = record {
  failed = refused.failed;
  faults = refused.faults;
  kind = refused.kind;
  same = refused.same;
  again = refused.again;
  cause = front_cause P Q old e front refused.cause;
}

as_cause : (P Q : List ℕ → Type 0) (old : Reading) (e : Asn1DerError) → ((bytes : List ℕ) → P bytes → Q bytes)
    → (old.failed ≡ true) ⊎ (IsExcuse e ⊎ IsMissing Q old) → (old.failed ≡ true) ⊎ (IsExcuse e ⊎ IsMissing P old)
as_cause P Q old e each (inl failed) = inl failed
as_cause P Q old e each (inr (inl excuse)) = inr (inl excuse)
as_cause P Q old e each (inr (inr missing)) = inr (inr (λ bytes rest p left within. missing bytes rest (each bytes p) left within))

-- refusing `Q` refuses `P`, if all bytes of `P` are bytes of `Q`
pub refused-as : (P Q : List ℕ → Type 0) (old new : Reading) (e : Asn1DerError) → Refused Q old new e
    → ((bytes : List ℕ) → P bytes → Q bytes) → Refused P old new e
refused-as P Q old new e refused each = record {
  failed = refused.failed;
  faults = refused.faults;
  kind = refused.kind;
  same = refused.same;
  again = refused.again;
  cause = as_cause P Q old e each refused.cause;
}

-- an own refusal
pub refused-here : (P : List ℕ → Type 0) (old new : Reading) (e : Asn1DerError) → old.failed ≡ false → new ≡ stopped old
    → IsOwn e → IsExcuse e ⊎ IsMissing P old → Refused P old new e
refused-here P old new e sound is own cause = record {
  failed = ap (λ r. r.failed) is;
  faults = ap (λ r. r.faults) is ∙ sym (own-faults e old.faults own);
  kind = own-kind e new.kind own;
  same = ap (λ r. r.through) is;
  again = λ failed. absurd (cc (sound, failed));
  cause = inr cause;
}

-- after a refusal nothing more is read
pub refused-again : (P : List ℕ → Type 0) (old new : Reading) (e : Asn1DerError) → old.failed ≡ true → new ≡ old → e ≡ InvalidData → Refused P old new e
refused-again P old new e failed is fault = record {
  failed = ap (λ r. r.failed) is ∙ failed;
  faults = ap (λ r. r.faults) is ∙ sym (ap (λ x. faults_after x old.faults) fault);
  kind = subst (λ x. TellsKind x new.kind) (sym fault) tt;
  same = ap (λ r. r.through) is;
  again = λ _. fault;
  cause = inl failed;
}

-- an own refusal, where nothing was taken
pub refused-own : (P : List ℕ → Type 0) (old new : Reading) (e k : Asn1DerError) → old.failed ≡ false → new.failed ≡ true
    → new.faults ≡ old.faults → new.through ≡ old.through → e ≡ k → IsOwn k → IsExcuse k ⊎ IsMissing P old → Refused P old new e
refused-own P old new e k sound failed faults same fault own cause = record {
  failed = failed;
  faults = faults ∙ sym (ap (λ x. faults_after x old.faults) fault ∙ own-faults k old.faults own);
  kind = subst (λ x. TellsKind x new.kind) (sym fault) (own-kind k new.kind own);
  same = same;
  again = λ was. absurd (cc (sound, was));
  cause = inr (subst (λ x. IsExcuse x ⊎ IsMissing P old) (sym fault) cause);
}

ended : (old rest : Option (List ℕ)) (a bytes more : List ℕ) → Consumes old rest a → IsAtEnd rest → old ≡ Some (bytes ++ more) → length bytes ≤ length a
ended None rest a bytes more p q e = absurd (cc (e))
ended (Some xs) None a bytes more p q e = absurd p
ended (Some xs) (Some ys) a bytes more p q e =
    let all : bytes ++ more ≡ a ++ [] = cc (p, q, e) in
    let total = ap length all in
    omega (arith, simp (length-append, append-nil) at total)

-- the source ended before there were enough octets
pub missing-short : (P : List ℕ → Type 0) (count : ℕ) (old : Reading) (rest : Option (List ℕ)) (a : List ℕ)
    → ((bytes : List ℕ) → P bytes → count ≤ length bytes)
    → Consumes old.left rest a → IsAtEnd rest → length a < count → IsMissing P old
missing-short P count old rest a some consumes end short bytes more p left within =
    absurd (omega (arith, ended old.left rest a bytes more consumes end left, some bytes p))

-- what is left of another spelling of a reading
pub left-consumed : (old : Reading) (left rest : Option (List ℕ)) (a : List ℕ) → old.left ≡ left → Consumes left rest a → Consumes old.left rest a
left-consumed old left rest a e p = subst (λ l. Consumes l rest a) (sym e) p

-- an own refusal at once
pub refused-stop : (P : List ℕ → Type 0) (old new : Reading) (e k : Asn1DerError) → old.failed ≡ false → new ≡ stopped old → e ≡ k
    → IsOwn k → IsExcuse k ⊎ IsMissing P old → Refused P old new e
refused-stop P old new e k sound is fault own cause =
    refused-own P old new e k sound (ap (λ r. r.failed) is) (ap (λ r. r.faults) is) (ap (λ r. r.through) is) fault own cause

-- a refusal of the reader's own after `a` was taken, if no input begins both with `a` and with bytes of `P`
pub refused-taken : (P : List ℕ → Type 0) (a : List ℕ) (old mid new : Reading) (e k : Asn1DerError) → Took a old mid → new ≡ stopped mid → e ≡ k
    → IsOwn k
    → ((bytes rest more : List ℕ) → P bytes → bytes ++ rest ≡ a ++ more → length bytes ≤ old.limit → ⊥) → Refused P old new e
refused-taken P a old mid new e k took is fault own never =
    refused-after P (λ _. ⊥) a old mid new e took
    (refused-stop (λ _. ⊥) mid new e k took.sound_after is fault own (inr (λ bytes rest p left within. p)))
    (λ bytes rest more p split within. absurd (never bytes rest more p split within))

-- a part was read within a lower limit
pub took-within : (a b : List ℕ) (count outside : ℕ) (old mid low high new : Reading) → Took a old mid → low ≡ within count mid → outside + count ≡ mid.limit
    → Took b low high → high.limit ≡ 0 → new ≡ within outside high → Took (a ++ b) old new
took-within a b count outside old mid low high new first is room second done then =
    let seen : Took b (within count mid) high = subst (λ r. Took b r high) is second in
    subst (λ r. Took (a ++ b) old r) (sym then) (record {
      left = Consumes-trans old.left mid.left high.left a b first.left seen.left;
      limit = omega (arith, first.limit, seen.limit, room, done, length-append a b);
      sound_before = first.sound_before;
      sound_after = seen.sound_after;
      looked = seen.looked;
      faults = seen.faults ∙ first.faults;
      same = seen.same ∙ first.same;
    })

within_cause : (P Q : List ℕ → Type 0) (count : ℕ) (mid : Reading) (e : Asn1DerError) → count ≤ mid.limit
    → ((bytes : List ℕ) → P bytes → Q bytes × (length bytes ≤ count))
    → (mid.failed ≡ true) ⊎ (IsExcuse e ⊎ IsMissing Q (within count mid)) → (mid.failed ≡ true) ⊎ (IsExcuse e ⊎ IsMissing P mid)
within_cause P Q count mid e room each (inl failed) = inl failed
within_cause P Q count mid e room each (inr (inl excuse)) = inr (inl excuse)
within_cause P Q count mid e room each (inr (inr missing)) =
    inr (inr (λ bytes rest p left fits. missing bytes rest (each bytes p).0 left (each bytes p).1))

-- a part was refused within a lower limit
pub refused-within : (P Q : List ℕ → Type 0) (count : ℕ) (mid low new : Reading) (e : Asn1DerError) → low ≡ within count mid → count ≤ mid.limit
    → Refused Q low new e → ((bytes : List ℕ) → P bytes → Q bytes × (length bytes ≤ count)) → Refused P mid new e
refused-within P Q count mid low new e is room refused each =
    let r : Refused Q (within count mid) new e = subst (λ x. Refused Q x new e) is refused in
    record {
      failed = r.failed;
      faults = r.faults;
      kind = r.kind;
      same = r.same;
      again = r.again;
      cause = within_cause P Q count mid e room each r.cause;
    }

-- what the exit of a `?` answers
pub at-exit : {T E : Type 0} (r : Result T E) (e : E) (P : T → Type 0) (Q : E → Type 0) → IsErrAnd r (λ y. y ≡ e) → Q e → MatchResult r P Q
at-exit (Ok x) e P Q is q = absurd is
at-exit (Err y) e P Q is q = subst Q (sym is) q

known_cause : (P Q : List ℕ → Type 0) (old : Reading) (e : Asn1DerError)
    → ((bytes rest : List ℕ) → P bytes → old.left ≡ Some (bytes ++ rest) → length bytes ≤ old.limit → (c d : List ℕ) × Q c × (bytes ≡ c ++ d))
    → (old.failed ≡ true) ⊎ (IsExcuse e ⊎ IsMissing Q old) → (old.failed ≡ true) ⊎ (IsExcuse e ⊎ IsMissing P old)
known_cause P Q old e front (inl failed) = inl failed
known_cause P Q old e front (inr (inl excuse)) = inr (inl excuse)
known_cause P Q old e front (inr (inr missing)) =
    inr (inr (λ bytes rest p left within.
    let parts = front bytes rest p left within in
    let fits : length parts.0 ≤ old.limit = omega (arith, within, ap length parts.3, length-append parts.0 parts.1) in
    missing parts.0 (parts.1 ++ rest) parts.2 (left ∙ ap (λ l. Some (l ++ rest)) parts.3 ∙ ap Some (append_assoc parts.0 parts.1 rest)) fits))

-- refusing `Q` refuses `P`, if the bytes of `P` that come next begin with bytes of `Q`
pub refused-known : (P Q : List ℕ → Type 0) (old new : Reading) (e : Asn1DerError) → Refused Q old new e
    → ((bytes rest : List ℕ) → P bytes → old.left ≡ Some (bytes ++ rest) → length bytes ≤ old.limit → (c d : List ℕ) × Q c × (bytes ≡ c ++ d))
    → Refused P old new e
refused-known P Q old new e refused front = record {
  failed = refused.failed;
  faults = refused.faults;
  kind = refused.kind;
  same = refused.same;
  again = refused.again;
  cause = known_cause P Q old e front refused.cause;
}

-- memory ran out after `a` was taken
pub refused-memory : (P : List ℕ → Type 0) (a : List ℕ) (old mid new : Reading) (e : Asn1DerError) → Took a old mid → new ≡ stopped mid → e ≡ Memory
    → Refused P old new e
refused-memory P a old mid new e took is fault =
    refused-own P old new e Memory took.sound_before (ap (λ r. r.failed) is) (ap (λ r. r.faults) is ∙ took.faults) (ap (λ r. r.through) is ∙ took.same) fault tt (inl tt)

pub passed-nothing : (old : Reading) → old.failed ≡ false → Passed [] old old
passed-nothing old sound = record {
  left = Consumes-nil old.left;
  limit = omega arith;
  sound_before = sound;
  sound_after = sound;
  faults = refl;
  same = refl;
}

-- What is read from a source doesn't depend on how the source cuts.
use Rattle.std.proofs.Common.{◌≡◌, ℕ, List, ◌++◌, Option, Some, Result, Ok, Err, inl, inr, refl, sym, ap, subst, ◌∙◌}
use Rattle.std.proofs.lemmas.List.{append_cancel_left}
use Rattle.asn1_der.specs.declared.error.Asn1DerError.{Asn1DerError}
use Rattle.asn1_der.specs.Seen.{Seen, as_is, by, Alike}
use Rattle.asn1_der.proofs.Alike.{alike-sym}
use Rattle.asn1_codec.proofs.ReadsLemmas.{gives-ok, gives-none}
use Rattle.asn1_codec.specs.Reads.{Gives, IsOneValue}
use Rattle.asn1_codec.specs.Cuts.{BeginsWithin, IsNextAnswer, IsExcused, ReadsNext, IsSameReading}
use Rattle.asn1_codec.proofs.Chain.{consumed}

-- one front of an input is read as a value, so one rest is left
one_rest : {T : Type 0} (seen : Seen T) (reads : T → List ℕ → Type 0) → IsOneValue seen reads → (limit : ℕ) (v w : T) (input x y : List ℕ) → BeginsWithin reads limit v input x
    → BeginsWithin reads limit w input y → Alike seen v w × (x ≡ y)
one_rest seen reads one limit v w input x y (a, first, fits, is) (b, second, also, same) =
    let both = one v w a b x y first second (sym is ∙ same) in
    (both.0, append_cancel_left b x y (ap (λ l. l ++ x) (sym both.1) ∙ sym is ∙ same))

pub next-reading : {T : Type 0} (seen : Seen T) (reads : T → List ℕ → Type 0) → IsOneValue seen reads → (limit : ℕ) (old new : Option (List ℕ)) (answer : Result T Asn1DerError)
    → IsNextAnswer reads limit old new answer → ReadsNext seen reads limit old new answer
next-reading seen reads one limit old new (Ok value) (bytes, read, fits, took) = inr (λ input is other.
    let rest = consumed old new bytes input took is in
    let begins : BeginsWithin reads limit value input rest.0 = (bytes, read, fits, rest.2) in (
      λ same. (rest.0, subst (λ v. BeginsWithin reads limit v input rest.0) (cc (same)) begins, rest.1),
      λ tail starts.
          let both = one_rest seen reads one limit value other input rest.0 tail begins starts in
          (gives-ok seen value other both.0, rest.1 ∙ ap Some both.1),
    ))
next-reading seen reads one limit old new (Err fault) (inl excuse) = inl excuse
next-reading seen reads one limit old new (Err fault) (inr missing) = inr (λ input is value. (
  λ same. absurd (cc (same)),
  λ rest begins. absurd (missing begins.0 rest (value, begins.1) (is ∙ ap Some begins.3) begins.2),
))

gives_was : {T : Type 0} (seen : Seen T) (got value : T) → Gives seen (Ok got) value → Alike seen got value
gives_was as_is got value e = cc (e)
gives_was (by V view) got value e = e

read_alike : {T : Type 0} (seen : Seen T) (reads : T → List ℕ → Type 0) (limit : ℕ) (input : List ℕ) (left other : Option (List ℕ)) (a b : Result T Asn1DerError)
    → ReadsNext seen reads limit (Some input) left a → ReadsNext seen reads limit (Some input) other b
    → (IsExcused a → ⊥) → (IsExcused b → ⊥) → IsSameReading seen a left b other
read_alike seen reads limit input left other a b (inl excuse) second fair also = absurd (fair excuse)
read_alike seen reads limit input left other a b (inr first) (inl excuse) fair also = absurd (also excuse)
read_alike seen reads limit input left other (Ok v) (Ok w) (inr first) (inr second) fair also =
    let begins = (first input refl v).0 refl in
    let again = (second input refl v).1 begins.0 begins.1 in
    (alike-sym seen w v (gives_was seen w v again.0), begins.2 ∙ sym again.1)
read_alike seen reads limit input left other (Ok v) (Err e) (inr first) (inr second) fair also =
    let begins = (first input refl v).0 refl in
    absurd (gives-none seen e v ((second input refl v).1 begins.0 begins.1).0)
read_alike seen reads limit input left other (Err e) (Ok w) (inr first) (inr second) fair also =
    let begins = (second input refl w).0 refl in
    absurd (gives-none seen e w ((first input refl w).1 begins.0 begins.1).0)
read_alike seen reads limit input left other (Err e) (Err f) first second fair also = tt

-- two readers of the same bytes
pub same-reading : {T : Type 0} (seen : Seen T) (reads : T → List ℕ → Type 0) → IsOneValue seen reads → (limit : ℕ) (input : List ℕ) (left other : Option (List ℕ))
    → (a b : Result T Asn1DerError) → IsNextAnswer reads limit (Some input) left a → IsNextAnswer reads limit (Some input) other b
    → (IsExcused a → ⊥) → (IsExcused b → ⊥) → IsSameReading seen a left b other
same-reading seen reads one limit input left other a b first second =
    read_alike seen reads limit input left other a b (next-reading seen reads one limit (Some input) left a first)
    (next-reading seen reads one limit (Some input) other b second)

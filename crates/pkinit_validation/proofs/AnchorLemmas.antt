-- What is made of the one value that bytes spell.
use Rattle.std.proofs.Common.{◌≡◌, ℕ, List, Result, Ok, Err, refl, inl, inr, ap, sym, ◌∙◌, subst}
use Rattle.std.specs.Prelude.{IsErrAnd}
use Rattle.picky_asn1.specs.Bytes.{Bytes}
use Rattle.x509_codec.specs.Answers.{ReadsSpelling}
use Rattle.x509_spelling.specs.declared.fault.X509Fault.{X509Fault}
use Rattle.x509_spelling.specs.declared.fault.X509Fault.TheVariants.{Memory}
use Rattle.pkinit_validation.specs.Anchors.{ReadsMade}

same_value : {A : Type 0} (a b : A) → ((let r : Result A X509Fault = Ok a in r) ≡ Ok b) → a ≡ b
same_value {A} a b e =
    let value : Result A X509Fault → A = elim [ Ok v ↦ v | Err _ ↦ a ] in
    ap value e

pub made_of : {T A : Type 0} (spells : T → List ℕ → ℕ → Type 0) (make : T → A) (bytes : Bytes) (value : T) (made : A)
    → ReadsSpelling spells bytes (Ok value) → made ≡ make value → ReadsMade spells make bytes (Ok made)
made_of spells make bytes value made (inl memory) is = absurd (cc (memory))
made_of {T} {A} spells make bytes value made (inr reads) is = inr (λ other. (
  λ e. (value, ((reads value).0 refl).0, ((reads value).0 refl).1, sym (same_value made other e) ∙ is),
  λ found.
      let same : value ≡ found.0 = same_value value found.0 ((reads found.0).1 (found.1, found.2)) in
      ap Ok (is ∙ ap make same ∙ sym found.3),
))

none_for : {T A : Type 0} (spells : T → List ℕ → ℕ → Type 0) (make : T → A) (bytes : Bytes) (fault : X509Fault)
    → ReadsSpelling spells bytes (Err fault) → ReadsMade spells make bytes (Err fault)
none_for {T} {A} spells make bytes fault (inl memory) = inl (let same : fault ≡ Memory = cc (memory) in ap Err same)
none_for {T} {A} spells make bytes fault (inr reads) = inr (λ made. (
  λ e. absurd (cc (e)),
  λ found. absurd (let never = (reads found.0).1 (found.1, found.2) in cc (never)),
))

-- where no value was read, the fault is returned
pub none_made : {T A : Type 0} (spells : T → List ℕ → ℕ → Type 0) (make : T → A) (bytes : Bytes) (fault : X509Fault) (answer : Result A X509Fault)
    → IsErrAnd answer (λ told. told ≡ fault) → ReadsSpelling spells bytes (Err fault) → ReadsMade spells make bytes answer
none_made spells make bytes fault (Ok made) is reads = absurd is
none_made spells make bytes fault (Err told) is reads =
    subst (λ f. ReadsMade spells make bytes (Err f)) (sym is) (none_for spells make bytes fault reads)

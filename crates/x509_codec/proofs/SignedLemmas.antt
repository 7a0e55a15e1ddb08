-- The part that is signed stands where splitting finds it.
use Rattle.std.proofs.Common.{◌≡◌, ℕ, List, [], ◌∷◌, ◌++◌, Result, Ok, Err, refl, sym, ap, ◌∙◌, subst, inl, inr, append-nil}
use Rattle.std.specs.Prelude.{Bool, IsErrAnd}
use Rattle.asn1_der.specs.Tree.{Tree}
use Rattle.asn1_der.specs.Length.{element}
use Rattle.asn1_der.specs.Firsts.{Firsts}
use Rattle.asn1_der.proofs.Elements.{element-one}
use Rattle.picky_asn1_der.specs.Raw.{Raw}
use Rattle.picky_asn1_der.specs.Splits.{SplitsInto, IsNoSplit, raw_bytes}
use Rattle.picky_asn1_der.specs.Parts.{AreElements, IsPart, IsStep}
use Rattle.x509_spelling.specs.declared.fault.X509Fault.{X509Fault}
use Rattle.x509_codec.specs.Answers.{ReadsSpelling}
use Rattle.x509_spelling.specs.Laws.{SpellingLaws}
use Rattle.x509_spelling.proofs.Rewriting as rewritten
use Rattle.x509_codec.specs.SignedParts.{HoldsFirst, IsSignedPart, value_of, leads_element}

-- what was read is spelled by the bytes
pub spelled_by : {T : Type 0} (spells : T → List ℕ → ℕ → Type 0) (bytes : List ℕ) (value : T) → ReadsSpelling spells bytes (Ok value) → (n : ℕ) × spells value bytes n
spelled_by spells bytes value (inl memory) = absurd (cc (memory))
spelled_by spells bytes value (inr reads) = (reads value).0 refl

-- a fault that was handed on
pub reads_at_exit : {T S : Type 0} (spells : T → List ℕ → ℕ → Type 0) (bytes : List ℕ) (r : Result (T × S) X509Fault) (fault : X509Fault)
    → IsErrAnd r (λ told. told ≡ fault) → ReadsSpelling spells bytes (Err fault) → ReadsSpelling spells bytes (value_of r)
reads_at_exit spells bytes (Ok read) fault is reads = absurd is
reads_at_exit spells bytes (Err told) fault is reads = subst (λ (f : X509Fault). ReadsSpelling spells bytes (Err f)) (sym is) reads

one_split : (bytes : List ℕ) (raw other : Raw) (rest more : List ℕ) → SplitsInto bytes raw rest → SplitsInto bytes other more → (raw ≡ other) × (rest ≡ more)
one_split bytes raw other rest more left right =
    let parts = element-one raw.first other.first raw.content other.content rest more (sym left.1 ∙ right.1) in
    (λ i. record { first = parts.0 i; content = parts.1 i }, parts.2)

module _ {P : Type 0} (is_low : Bool) (firsts : Firsts) (tree : P → Tree) (spells : P → List ℕ → ℕ → Type 0) (laws : SpellingLaws is_low firsts tree spells)
    (part : P) (bytes : List ℕ) (n : ℕ) (holds : HoldsFirst spells part bytes n) where
  sequence_of : Raw
  sequence_of = record { first = 48; content = holds.content }

  whole_split : SplitsInto bytes sequence_of []
  unfolding sequence_of
  whole_split = (refl, holds.is ∙ sym (append-nil (element 48 holds.content)))

  part_split : (raw : Raw) × SplitsInto holds.content raw holds.rest
  part_split = leads_element is_low firsts tree spells laws part holds.content holds.rest holds.own holds.leads

  pub some_whole : IsNoSplit bytes → ⊥
  some_whole none = none sequence_of [] whole_split

  module _ (raw : Raw) (rest : List ℕ) (step : IsStep bytes raw rest) where
    same_content : raw.content ≡ holds.content
    unfolding sequence_of
    same_content = ap (λ (r : Raw). r.content) (one_split bytes raw sequence_of rest [] step.split whole_split).0

    whole_bytes : raw_bytes raw ≡ bytes
    whole_bytes =
        let same = one_split bytes raw sequence_of rest [] step.split whole_split in
        sym (append-nil (raw_bytes raw)) ∙ ap (λ (l : List ℕ). raw_bytes raw ++ l) (sym same.1) ∙ sym step.split.1

    pub some_part : (inside : List ℕ) → inside ≡ raw.content → IsNoSplit inside → ⊥
    some_part inside is none = none part_split.0 holds.rest (subst (λ (l : List ℕ). SplitsInto l part_split.0 holds.rest) (sym (is ∙ same_content)) part_split.1)

    module _ (inner : Raw) (more : List ℕ) (next : IsStep raw.content inner more) where
      same_part : (inner ≡ part_split.0) × (more ≡ holds.rest)
      same_part =
          one_split raw.content inner part_split.0 more holds.rest next.split
          (subst (λ (l : List ℕ). SplitsInto l part_split.0 holds.rest) (sym same_content) part_split.1)

      part_there : IsPart bytes (0 ∷ []) (raw_bytes inner)
      part_there =
          subst (λ (l : List ℕ). IsPart l (0 ∷ []) (raw_bytes inner)) whole_bytes
          (step.from_inside 0 [] (raw_bytes inner) (next.at_first holds.raws [] (raw_bytes inner)
          (subst (λ (l : List ℕ). AreElements holds.raws l) (sym same_part.1) holds.are) refl))

      -- the front of the content that is spelled is the element
      front_is : holds.leads.0 ≡ raw_bytes inner
      front_is =
          let l = laws.element_of part holds.leads.0 holds.own holds.leads.1 in
          let text : element l.0 l.1 ++ holds.rest ≡ raw_bytes inner ++ more =
          ap (λ (f : List ℕ). f ++ holds.rest) (sym l.3) ∙ sym holds.leads.3 ∙ sym same_content ∙ next.split.1 in
          let parts = element-one l.0 inner.first l.1 inner.content holds.rest more text in
          l.3 ∙ (λ i. element (parts.0 i) (parts.1 i))

      part_spelled : (m : ℕ) × spells part (raw_bytes inner) m
      part_spelled = (holds.own, subst (λ (l : List ℕ). spells part l holds.own) front_is holds.leads.1)

    -- what is handed out, where it is found
    pub signed_part : (strict_tree : P → Tree) → strict_tree ≡ tree → (inside : List ℕ) → inside ≡ raw.content
        → (inner : Raw) (more : List ℕ) → IsStep inside inner more → (signed : List ℕ) → signed ≡ raw_bytes inner → IsSignedPart spells strict_tree part bytes signed
    signed_part strict_tree same inside is inner more step_in signed at =
        let next : IsStep raw.content inner more = subst (λ (l : List ℕ). IsStep l inner more) is step_in in
        record {
          place = subst (λ (l : List ℕ). IsPart bytes (0 ∷ []) l) (sym at) (part_there inner more next);
          spelled = subst (λ (l : List ℕ). (m : ℕ) × spells part l m) (sym at) (part_spelled inner more next);
          rewriting = λ k s. rewritten.rewriting is_low firsts tree spells laws strict_tree same part signed k s;
        }

-- A header is read from the element that holds it.
use Rattle.std.proofs.Common.{◌≡◌, ℕ, true, List, ◌++◌, Option, None, Some, inl, inr, refl, sym, ap, subst, ◌∙◌}
use Rattle.asn1_der.specs.Tree.{Tree, Writes}
use Rattle.asn1_der.specs.Firsts.{Firsts}
use Rattle.asn1_der.specs.Length.{element}
use Rattle.asn1_der.proofs.Elements.{element-one}
use Rattle.asn1_der.specs.Seen.{Seen, Alike}
use Rattle.asn1_der.proofs.Spelling.{IsInjectiveAs}
use Rattle.asn1_der.specs.declared.error.Asn1DerError.{Asn1DerError}
use Rattle.asn1_codec.specs.Reading.{Reading, Took, TookBy, Refused, IsReadBy, IsOwn, stopped}
use Rattle.asn1_codec.specs.Reads.{BeginsBy}
use Rattle.asn1_codec.proofs.Chain.{refused-taken, refused-memory}
use Rattle.gss_contexts.specs.Fronts.{Leads, LeadsOptional, begins, IsMissing}
use Rattle.gss_contexts.specs.HeaderLaws.{leads-one, leads_optional-one}
use Rattle.gss_contexts.specs.Headers.{LeadFields, IsHeaderOf}

module _ {A B C : Type 0} (ta : A → Tree) (fb : Firsts) (tb : B → Tree) (fc : Firsts) (tc : C → Tree) where
  abbrev pub IsRow : A × Option B × Option C → List ℕ → Type 0
  IsRow = IsHeaderOf ta fb tb fc tc (λ f. f.0) (λ f. f.1) (λ f. f.2)

  pub header-read : (f : A × Option B × Option C) (content given : List ℕ) (old new : Reading) → given ≡ content → Took (element 48 content) old new
      → LeadFields ta fb tb fc tc f.0 f.1 f.2 given → TookBy IsRow f old new
  header-read f content given old new same took led = (element 48 content, (content, refl, subst (LeadFields ta fb tb fc tc f.0 f.1 f.2) same led), took)

  -- behind an element that holds no header
  pub header-refused : (content given : List ℕ) (old mid new : Reading) (fault answered : Asn1DerError) → given ≡ content → Took (element 48 content) old mid
      → new ≡ stopped mid → answered ≡ fault → IsOwn fault
      → IsMissing (λ (f : A × Option B × Option C). LeadFields ta fb tb fc tc f.0 f.1 f.2 given) fault → Refused (IsReadBy IsRow) old new answered
  header-refused content given old mid new fault answered same took is told own (inl memory) =
      refused-memory (IsReadBy IsRow) (element 48 content) old mid new answered took is (told ∙ memory)
  header-refused content given old mid new fault answered same took is told own (inr none) =
      refused-taken (IsReadBy IsRow) (element 48 content) old mid new answered fault took is told own
      (λ bytes rest more (f, (other, spelled, led)) joined within.
      let texts : element 48 other ++ rest ≡ element 48 content ++ more = sym (ap (λ (t : List ℕ). t ++ rest) spelled) ∙ joined in
      let one : other ≡ given = (element-one 48 48 other content rest more texts).1 ∙ sym same in
      none f (subst (LeadFields ta fb tb fc tc f.0 f.1 f.2) one led))

missing-as : {T U : Type 0} (fits : T → Type 0) (first : U → Type 0) (fault : Asn1DerError) → IsMissing first fault → ((v : T) → fits v → (u : U) × first u)
    → IsMissing fits fault
missing-as fits first fault (inl memory) leads = inl memory
missing-as fits first fault (inr none) leads = inr (λ v fit. let part = leads v fit in none part.0 part.1)

-- what is led by an optional value begins with one where its first octet is there
optional-begins : {T : Type 0} (firsts : Firsts) (reads : T → List ℕ → Type 0) (o : Option T) (bytes rest : List ℕ) → begins firsts bytes ≡ true
    → LeadsOptional firsts reads o bytes rest → (v : T) × BeginsBy reads v bytes
optional-begins firsts reads None bytes rest there (none, is) = absurd (cc (none, there))
optional-begins firsts reads (Some v) bytes rest there (also, (front, read, is)) = (v, (front, rest, read, is))

module _ {A B C : Type 0} (ta : A → Tree) (fb : Firsts) (tb : B → Tree) (fc : Firsts) (tc : C → Tree) where
  abbrev Led : List ℕ → A × Option B × Option C → Type 0
  Led content f = LeadFields ta fb tb fc tc f.0 f.1 f.2 content

  pub no-first : (content : List ℕ) (fault : Asn1DerError) → IsMissing (λ v. BeginsBy (Writes ta) v content) fault → IsMissing (Led content) fault
  no-first content fault missing =
      missing-as (Led content) (λ v. BeginsBy (Writes ta) v content) fault missing
      (λ f (behind, later, ignored, (front, read, is), second, third). (f.0, (front, behind, read, is)))

  pub no-second : (content : List ℕ) (a : A) (behind : List ℕ) (fault : Asn1DerError) (sa : Seen A) → IsInjectiveAs (Alike sa) ta → Leads (Writes ta) a content behind → begins fb behind ≡ true
      → IsMissing (λ v. BeginsBy (Writes tb) v behind) fault → IsMissing (Led content) fault
  no-second content a behind fault sa one led there missing =
      missing-as (Led content) (λ v. BeginsBy (Writes tb) v behind) fault missing
      (λ f (other, later, ignored, first, second, third).
      let same : behind ≡ other = (leads-one sa ta one a f.0 content behind other led first).1 in
      optional-begins fb (Writes tb) f.1 behind later there (subst (λ (t : List ℕ). LeadsOptional fb (Writes tb) f.1 t later) (sym same) second))

  pub no-third : (content : List ℕ) (a : A) (b : Option B) (behind later : List ℕ) (fault : Asn1DerError) (sa : Seen A) (sb : Seen B) → IsInjectiveAs (Alike sa) ta → IsInjectiveAs (Alike sb) tb
      → Leads (Writes ta) a content behind → LeadsOptional fb (Writes tb) b behind later → begins fc later ≡ true
      → IsMissing (λ v. BeginsBy (Writes tc) v later) fault → IsMissing (Led content) fault
  no-third content a b behind later fault sa sb one also led next there missing =
      missing-as (Led content) (λ v. BeginsBy (Writes tc) v later) fault missing
      (λ f (other, more, ignored, first, second, third).
      let same : behind ≡ other = (leads-one sa ta one a f.0 content behind other led first).1 in
      let here = subst (λ (t : List ℕ). LeadsOptional fb (Writes tb) f.1 t more) (sym same) second in
      let rest : later ≡ more = (leads_optional-one fb sb tb also b f.1 behind later more next here).1 in
      optional-begins fc (Writes tc) f.2 later ignored there (subst (λ (t : List ℕ). LeadsOptional fc (Writes tc) f.2 t ignored) (sym rest) third))

-- What the faults of a source's next element say of the values that may come next.
use Rattle.std.proofs.Common.{◌≡◌, ◌⊎◌, inl, inr, ℕ, ◌+◌, ◌-◌, ◌<◌, ◌≤◌, ◌^◌, List, [], ◌∷◌, ◌++◌, length, take, Option, None, Some, Result, Ok, Err, IfOk, IfErr, refl, sym, ap, ◌∙◌, subst, arith, append_assoc}
use Rattle.std.specs.Prelude.{IfSome}
use Rattle.std.specs.Io.KnownBytes.{Consumes}
use Rattle.std.specs.declared.io.ErrorKind.{ErrorKind}
use Rattle.std.proofs.Math.Seq.{take-append-add}
use Rattle.std.proofs.lemmas.List.{append-nil, length-append}
use Rattle.asn1_der.specs.Length.{length_octets, element}
use Rattle.asn1_der.specs.Seen.{Seen}
use Rattle.asn1_der.proofs.Elements.{element-parts, element-one}
use Rattle.asn1_der.specs.declared.error.Asn1DerError.{Asn1DerError}
use Rattle.asn1_der.specs.declared.error.Asn1DerError.TheVariants.{TruncatedData, InvalidData, UnsupportedValue, UnsupportedType, InvalidSink, Message, Other, Memory}
use Rattle.asn1_codec.specs.Cuts.{TakesNext, MissesNext, TellsNext}
use Rattle.asn1_codec.specs.Held.{TellsCut, TellsLeft}
use Rattle.asn1_codec.specs.Named.{IsAnElement, EndsInside, NeverBegins, TellsEnd, TellsWholeEnd}
use Rattle.asn1_codec.specs.Reading.{IsExcuse, IsOwn, IsNotNext, IsReadBy, TellsKind, result_faults}
use Rattle.asn1_codec.specs.Reads.{ReadsWhole}
use Rattle.asn1_codec.proofs.Chain.{own-faults, own-kind}
use Rattle.asn1_codec.proofs.NamedLemmas.{count_outside, none_is}

-- a whole element doesn't end inside one, whatever follows it
element_outside : (bytes tail : List ℕ) → IsAnElement bytes → length bytes < 2 ^ 64 → EndsInside (bytes ++ tail) → ⊥
element_outside bytes tail (first, content, is) small inside =
    let fits : length content ≤ length (content ++ tail) = omega (arith, length-append content tail) in
    let text : bytes ++ tail ≡ first ∷ (length_octets (length content) ++ (content ++ tail)) = ap (λ l. l ++ tail) is ∙ element-parts first content tail in
    count_outside first (length content) (content ++ tail) fits (subst EndsInside text inside)

-- the front of a text up to the limit goes on behind what begins the text
front_of : (limit : ℕ) (bytes rest : List ℕ) → length bytes ≤ limit → take limit (bytes ++ rest) ≡ bytes ++ take (limit - length bytes) rest
front_of limit bytes rest fits =
    let sum : limit ≡ length bytes + (limit - length bytes) = omega (arith, fits) in
    ap (λ n. take n (bytes ++ rest)) sum ∙ take-append-add bytes rest (limit - length bytes)

module _ {T : Type 0} (reads : T → List ℕ → Type 0) (is_element : (value : T) (bytes : List ℕ) → reads value bytes → IsAnElement bytes) where
  -- a value within the limit isn't next where the front up to the limit is cut
  cut_off : (limit : ℕ) (input : List ℕ) (fault : Asn1DerError) → limit < 2 ^ 64 → TellsCut (take limit input) fault → IsNotNext (IsReadBy reads) (Some input) limit
  cut_off limit input TruncatedData small cut bytes rest (value, read) left within =
      let is : input ≡ bytes ++ rest = cc (left) in
      let front : take limit input ≡ bytes ++ take (limit - length bytes) rest = ap (take limit) is ∙ front_of limit bytes rest within in
      element_outside bytes (take (limit - length bytes) rest) (is_element value bytes read) (omega (arith, within, small)) (subst EndsInside front cut)
  cut_off limit input InvalidData small cut bytes rest (value, read) left within =
      let is : input ≡ bytes ++ rest = cc (left) in
      let front : take limit input ≡ bytes ++ take (limit - length bytes) rest = ap (take limit) is ∙ front_of limit bytes rest within in
      cut.1 [] bytes (take (limit - length bytes) rest) (omega (arith, within, small)) (is_element value bytes read) (append-nil (take limit input) ∙ front)
  cut_off limit input UnsupportedValue small cut bytes rest p left within = absurd cut
  cut_off limit input UnsupportedType small cut bytes rest p left within = absurd cut
  cut_off limit input InvalidSink small cut bytes rest p left within = absurd cut
  cut_off limit input (Message rule) small cut bytes rest p left within = absurd cut
  cut_off limit input (Other kind) small cut bytes rest p left within = absurd cut
  cut_off limit input Memory small cut bytes rest p left within = absurd cut

  cut_end : (front : List ℕ) (fault : Asn1DerError) → TellsCut front fault → TellsEnd reads front fault
  cut_end front TruncatedData cut = cut
  cut_end front InvalidData cut = (cut.0, λ more bytes rest small p e. cut.1 more bytes rest small (is_element p.0 bytes p.1) e)
  cut_end front UnsupportedValue cut = absurd cut
  cut_end front UnsupportedType cut = absurd cut
  cut_end front InvalidSink cut = absurd cut
  cut_end front (Message rule) cut = absurd cut
  cut_end front (Other kind) cut = absurd cut
  cut_end front Memory cut = absurd cut

  excuse_end : (front : List ℕ) (fault : Asn1DerError) → IsExcuse fault → TellsEnd reads front fault
  excuse_end front TruncatedData excuse = absurd excuse
  excuse_end front InvalidData excuse = absurd excuse
  excuse_end front UnsupportedValue excuse = absurd excuse
  excuse_end front UnsupportedType excuse = absurd excuse
  excuse_end front InvalidSink excuse = absurd excuse
  excuse_end front (Message rule) excuse = absurd excuse
  excuse_end front (Other kind) excuse = tt
  excuse_end front Memory excuse = tt

  -- no element was taken
  pub missed_element : (limit : ℕ) (left : Option (List ℕ)) (fault : Asn1DerError) → limit < 2 ^ 64 → IsExcuse fault ⊎ TellsLeft limit left fault
      → MissesNext reads limit left fault × TellsNext reads limit left fault
  missed_element limit None fault small told = (inr (λ bytes rest p left within. absurd (cc (left))), tt)
  missed_element limit (Some input) fault small (inl excuse) = (inl excuse, excuse_end (take limit input) fault excuse)
  missed_element limit (Some input) fault small (inr cut) = (inr (cut_off limit input fault small cut), cut_end (take limit input) fault cut)

  -- of what an element begins nothing else is read
  only_element : (bytes tail : List ℕ) → IsAnElement bytes → ((value : T) → reads value bytes → ⊥) → NeverBegins (IsReadBy reads) (bytes ++ tail)
  only_element bytes tail (first, content, is) none more other rest small (value, read) e =
      let one = is_element value other read in
      let text : element first content ++ (tail ++ more) ≡ element one.0 one.1 ++ rest =
      ap (λ l. l ++ (tail ++ more)) (sym is) ∙ sym (append_assoc bytes tail more) ∙ e ∙ ap (λ l. l ++ rest) one.2 in
      let parts = element-one first one.0 content one.1 (tail ++ more) rest text in
      let same : other ≡ bytes = one.2 ∙ ap (λ f. element f one.1) (sym parts.0) ∙ ap (element first) (sym parts.1) ∙ sym is in
      none value (subst (reads value) same read)

  not_next : (limit : ℕ) (bytes rest : List ℕ) → limit < 2 ^ 64 → IsAnElement bytes → ((value : T) → reads value bytes → ⊥)
      → IsNotNext (IsReadBy reads) (Some (bytes ++ rest)) limit
  not_next limit bytes rest small one none other behind p left within =
      let is : bytes ++ rest ≡ other ++ behind = cc (left) in
      only_element bytes rest one none [] other behind (omega (arith, within, small)) p (append-nil (bytes ++ rest) ∙ is)

  abbrev IsOff : List ℕ → Type 0
  IsOff front = (EndsInside front → ⊥) × NeverBegins (IsReadBy reads) front

  never_front : (limit : ℕ) (bytes rest : List ℕ) → limit < 2 ^ 64 → length bytes ≤ limit → IsAnElement bytes → ((value : T) → reads value bytes → ⊥)
      → IsOff (take limit (bytes ++ rest))
  never_front limit bytes rest small fits one none =
      let tail : List ℕ = take (limit - length bytes) rest in
      subst IsOff (sym (front_of limit bytes rest fits)) (element_outside bytes tail one (omega (arith, fits, small)), only_element bytes tail one none)

  never_next : (limit : ℕ) (left new : Option (List ℕ)) (bytes : List ℕ) → limit < 2 ^ 64 → Consumes left new bytes → length bytes ≤ limit → IsAnElement bytes
      → ((value : T) → reads value bytes → ⊥)
      → IsNotNext (IsReadBy reads) left limit × IfSome left (λ input. IsOff (take limit input))
  never_next limit None new bytes small took fits one none = (λ other rest p left within. absurd (cc (left)), tt)
  never_next limit (Some input) None bytes small took fits one none = absurd took
  never_next limit (Some input) (Some rest) bytes small took fits one none = (
    subst (λ l. IsNotNext (IsReadBy reads) (Some l) limit) (sym took) (not_next limit bytes rest small one none),
    subst (λ l. IsOff (take limit l)) (sym took) (never_front limit bytes rest small fits one none),
  )

  out_of_memory : (limit : ℕ) (left : Option (List ℕ)) → TellsNext reads limit left Memory
  out_of_memory limit None = tt
  out_of_memory limit (Some input) = tt

  -- the element that was taken is read as no value
  refused_element : (seen : Seen T) (limit : ℕ) (left new : Option (List ℕ)) (bytes : List ℕ) (fault : Asn1DerError) → limit < 2 ^ 64 → Consumes left new bytes
      → length bytes ≤ limit → IsAnElement bytes → ReadsWhole seen reads bytes (Err fault) → IsOwn fault → TellsWholeEnd reads bytes fault
      → MissesNext reads limit left fault × TellsNext reads limit left fault
  refused_element seen limit left new bytes TruncatedData small took fits one read own end =
      absurd (element_outside bytes [] one (omega (arith, fits, small)) (subst EndsInside (sym (append-nil bytes)) end))
  refused_element seen limit left new bytes InvalidData small took fits one read own end =
      let never = never_next limit left new bytes small took fits one (none_is seen reads bytes InvalidData refl read) in (inr never.0, never.1)
  refused_element seen limit left new bytes UnsupportedValue small took fits one read own end =
      let never = never_next limit left new bytes small took fits one (none_is seen reads bytes UnsupportedValue refl read) in (inr never.0, never.1)
  refused_element seen limit left new bytes UnsupportedType small took fits one read own end =
      let never = never_next limit left new bytes small took fits one (none_is seen reads bytes UnsupportedType refl read) in (inr never.0, never.1)
  refused_element seen limit left new bytes InvalidSink small took fits one read own end =
      let never = never_next limit left new bytes small took fits one (none_is seen reads bytes InvalidSink refl read) in (inr never.0, never.1)
  refused_element seen limit left new bytes (Message rule) small took fits one read own end =
      let never = never_next limit left new bytes small took fits one (none_is seen reads bytes (Message rule) refl read) in (inr never.0, never.1)
  refused_element seen limit left new bytes (Other kind) small took fits one read own end = absurd own
  refused_element seen limit left new bytes Memory small took fits one read own end = (inl tt, out_of_memory limit left)

  -- the element that was taken is read as this value
  taken_value : (seen : Seen T) (bytes : List ℕ) (value : T) → ReadsWhole seen reads bytes (Ok value) → reads value bytes
  taken_value seen bytes value (inl memory) = absurd (cc (memory))
  taken_value seen bytes value (inr each) = (each value).0 refl

  -- what is answered of the element that was taken
  next_answer : (seen : Seen T) (limit : ℕ) (left new : Option (List ℕ)) (bytes : List ℕ) (answer : Result T Asn1DerError) → limit < 2 ^ 64
      → Consumes left new bytes → length bytes ≤ limit → IsAnElement bytes → ReadsWhole seen reads bytes answer → IfErr answer IsOwn
      → IfErr answer (TellsWholeEnd reads bytes)
      → IfOk answer (TakesNext reads limit left new) × IfErr answer (MissesNext reads limit left) × IfErr answer (TellsNext reads limit left)
  next_answer seen limit left new bytes (Ok value) small took fits one read own end = ((bytes, taken_value seen bytes value read, fits, took), tt, tt)
  next_answer seen limit left new bytes (Err fault) small took fits one read own end =
      let refused = refused_element seen limit left new bytes fault small took fits one read own end in (tt, refused.0, refused.1)

  -- the same of the bytes under another name
  pub read_answer : (seen : Seen T) (limit : ℕ) (left new : Option (List ℕ)) (text bytes : List ℕ) (answer : Result T Asn1DerError) → limit < 2 ^ 64
      → text ≡ bytes → Consumes left new bytes → length bytes ≤ limit → IsAnElement bytes → ReadsWhole seen reads text answer → IfErr answer IsOwn
      → IfErr answer (TellsWholeEnd reads text)
      → IfOk answer (TakesNext reads limit left new) × IfErr answer (MissesNext reads limit left) × IfErr answer (TellsNext reads limit left)
  read_answer seen limit left new text bytes answer small same took fits one read own end =
      next_answer seen limit left new text answer small (subst (Consumes left new) (sym same) took) (omega (arith, ap length same, fits))
      (subst IsAnElement (sym same) one) read own end

-- an answer over bytes in memory counts no failed call of the source
pub own_count : {T : Type 0} (answer : Result T Asn1DerError) (n : ℕ) → IfErr answer IsOwn → result_faults answer n ≡ n
own_count (Ok value) n own = refl
own_count (Err fault) n own = own-faults fault n own

pub own_kinds : {T : Type 0} (answer : Result T Asn1DerError) (last : Option ErrorKind) → IfErr answer IsOwn → IfErr answer (λ fault. TellsKind fault last)
own_kinds (Ok value) last own = tt
own_kinds (Err fault) last own = own-kind fault last own

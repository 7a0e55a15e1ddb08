-- What the fault of an input says of which nothing is read.
use Rattle.std.proofs.Common.{◌≡◌, inl, inr, ℕ, ◌+◌, ◌-◌, ◌<◌, ◌≤◌, ◌^◌, Bool, true, false, List, [], ◌∷◌, ◌++◌, length, take, drop, replicate, Result, Err, refl, sym, ap, ◌∙◌, subst, arith, append_assoc, take-append-drop, length-drop}
use Rattle.std.specs.Prelude.{nat_lt}
use Rattle.std.specs.Bool.{MatchBool}
use Rattle.std.proofs.lemmas.Bool.{cases_lt, false≢true, ltb-true, ltb-false}
use Rattle.std.proofs.lemmas.List.{append-nil, length-append, length-replicate, length-take-le}
use Rattle.asn1_der.specs.Length.{length_octets, element}
use Rattle.asn1_der.specs.Seen.{Seen, as_is, by}
use Rattle.asn1_der.proofs.Elements.{fronts, element-parts, element-one, length-element}
use Rattle.asn1_der.specs.declared.error.Asn1DerError.{Asn1DerError}
use Rattle.asn1_der.specs.declared.error.Asn1DerError.TheVariants.{TruncatedData, InvalidData, UnsupportedValue, UnsupportedType, InvalidSink, Message, Other, Memory}
use Rattle.asn1_codec.specs.Lengths.{AreLengthOctets, IsWanting}
use Rattle.asn1_codec.specs.Named.{IsAnElement, EndsInside, is_excuse, is_truncated, as_final, IsNamed, NeverBegins, NeverIs, TellsEnd, TellsWholeEnd}
use Rattle.asn1_codec.specs.Reading.{IsOwn, IsReadBy}
use Rattle.asn1_codec.specs.Reads.{Gives, BeginsBy, ReadsFront, ReadsWhole}
use Rattle.asn1_codec.proofs.Lengths.{element_joined}

-- a header and its content are the element
pub whole_text : (first count : ℕ) (content : List ℕ) → length content ≡ count → first ∷ (length_octets count ++ content) ≡ element first content
whole_text first count content size =
    ap (λ l. first ∷ (length_octets count ++ l)) (sym (append-nil content)) ∙ element_joined first count content [] size ∙ append-nil (element first content)

-- nothing ends inside an element
pub nothing_inside : EndsInside []
nothing_inside = (element 0 [], 0, [], omega (arith, length-element 0 []), omega arith, refl)

-- so does a content that is too short
pub count_inside : (first count : ℕ) (held : List ℕ) → count < 2 ^ 64 → length held < count → EndsInside (first ∷ (length_octets count ++ held))
count_inside first count held small short =
    let zeros : List ℕ = replicate (count - length held) 0 in
    let many : length zeros ≡ count - length held = length-replicate {A = ℕ} (count - length held) 0 in
    let content : List ℕ = held ++ zeros in
    let joined : length content ≡ length held + length zeros = length-append held zeros in
    let size : length content ≡ count = omega arith in
    let text : (first ∷ (length_octets count ++ held)) ++ zeros ≡ element first content =
    ap (λ l. first ∷ l) (append_assoc (length_octets count) held zeros) ∙ whole_text first count content size in
    (zeros, first, content, omega arith, omega arith, text)

-- and a length that isn't whole
pub length_inside : (first : ℕ) (behind : List ℕ) → IsWanting AreLengthOctets behind TruncatedData → EndsInside (first ∷ behind)
length_inside first behind (more, (count, small, is), some) =
    let zeros : List ℕ = replicate count 0 in
    let many : length zeros ≡ count = length-replicate {A = ℕ} count 0 in
    let joined : length (more ++ zeros) ≡ length more + length zeros = length-append more zeros in
    let text : (first ∷ behind) ++ (more ++ zeros) ≡ element first zeros =
    ap (λ l. first ∷ l) (sym (append_assoc behind more zeros)) ∙ ap (λ l. first ∷ (l ++ zeros)) is ∙ whole_text first count zeros many in
    (more ++ zeros, first, zeros, omega arith, omega arith, text)

-- but not what is no length
pub length_outside : (first : ℕ) (behind : List ℕ) → IsWanting AreLengthOctets behind InvalidData → EndsInside (first ∷ behind) → ⊥
length_outside first behind wants (more, other, content, some, small, e) =
    let parts : first ∷ (behind ++ more) ≡ other ∷ (length_octets (length content) ++ (content ++ [])) =
    e ∙ sym (append-nil (element other content)) ∙ element-parts other content [] in
    wants more (length_octets (length content)) (content ++ []) (length content, small, refl) (cc (parts))

-- and not a whole element
pub count_outside : (first count : ℕ) (held : List ℕ) → count ≤ length held → EndsInside (first ∷ (length_octets count ++ held)) → ⊥
count_outside first count held fits (more, other, content, some, small, e) =
    let body : List ℕ = take count held in
    let left : List ℕ = drop count held in
    let size : length body ≡ count = length-take-le count held fits in
    let held_text : body ++ (left ++ more) ≡ held ++ more = sym (append_assoc body left more) ∙ ap (λ l. l ++ more) (take-append-drop count held) in
    let text : element first body ++ (left ++ more) ≡ element other content ++ [] =
    sym (element_joined first count body (left ++ more) size)
    ∙ ap (λ l. first ∷ (length_octets count ++ l)) held_text
    ∙ ap (λ l. first ∷ l) (sym (append_assoc (length_octets count) held more))
    ∙ e
    ∙ sym (append-nil (element other content)) in
    let sizes : length (left ++ more) ≡ 0 = ap length (element-one first other body content (left ++ more) [] text).2 in
    omega (arith, length-append left more)

pub ends_by_count : (input behind held : List ℕ) (first count : ℕ) (r : Bool) → r ≡ nat_lt (length held) count → count < 2 ^ 64 → input ≡ first ∷ behind
    → behind ≡ length_octets count ++ held → MatchBool r (EndsInside input) (EndsInside input → ⊥)
ends_by_count input behind held first count true told small is also =
    subst EndsInside (sym (is ∙ ap (λ l. first ∷ l) also)) (count_inside first count held small (ltb-true (length held) count (sym told)))
ends_by_count input behind held first count false told small is also =
    λ inside. count_outside first count held (ltb-false (length held) count (sym told)) (subst EndsInside (is ∙ ap (λ l. first ∷ l) also) inside)

by_fault : (input behind : List ℕ) (first : ℕ) (fault : Asn1DerError) → input ≡ first ∷ behind → IsWanting AreLengthOctets behind fault
    → MatchBool (is_truncated fault) (EndsInside input) (EndsInside input → ⊥)
by_fault input behind first TruncatedData is wants = subst EndsInside (sym is) (length_inside first behind wants)
by_fault input behind first InvalidData is wants = λ inside. length_outside first behind wants (subst EndsInside is inside)
by_fault input behind first UnsupportedValue is wants = absurd wants
by_fault input behind first UnsupportedType is wants = absurd wants
by_fault input behind first InvalidSink is wants = absurd wants
by_fault input behind first (Message rule) is wants = absurd wants
by_fault input behind first (Other kind) is wants = absurd wants
by_fault input behind first Memory is wants = absurd wants

pub ends_by_fault : (input behind : List ℕ) (first : ℕ) (fault : Asn1DerError) (r : Bool) → r ≡ is_truncated fault → input ≡ first ∷ behind
    → IsWanting AreLengthOctets behind fault → MatchBool r (EndsInside input) (EndsInside input → ⊥)
ends_by_fault input behind first fault r told is wants =
    subst (λ b. MatchBool b (EndsInside input) (EndsInside input → ⊥)) (sym told) (by_fault input behind first fault is wants)

-- the shorter of two fronts of a text begins the longer
prefix : (a b x y : List ℕ) → length a ≤ length b → a ++ x ≡ b ++ y → b ≡ a ++ drop (length a) b
prefix a b x y fits e =
    let front : List ℕ = take (length a) b in
    let behind : List ℕ = drop (length a) b in
    let whole : front ++ behind ≡ b = take-append-drop (length a) b in
    let text : a ++ x ≡ front ++ (behind ++ y) = e ∙ ap (λ l. l ++ y) (sym whole) ∙ append_assoc front behind y in
    sym whole ∙ ap (λ l. l ++ behind) (sym (fronts a front x (behind ++ y) (sym (length-take-le (length a) b fits)) text).0)

-- an element that an input begins with, whatever follows it, begins it already, or the input ends inside it
no_continuation : {T : Type 0} (reads : T → List ℕ → Type 0) → ((value : T) (bytes : List ℕ) → reads value bytes → IsAnElement bytes) → (input : List ℕ)
    → (EndsInside input → ⊥) → ((value : T) → BeginsBy reads value input → ⊥) → NeverBegins (IsReadBy reads) input
no_continuation reads is_element input outside none more bytes rest small (value, read) e =
    elim (cases_lt (length input) (length bytes)) [
      | inl long ↦
          (let one = is_element value bytes read in
          let text : bytes ≡ input ++ drop (length input) bytes = prefix input bytes more rest (omega arith) e in
          let sizes : length bytes ≡ length (element one.0 one.1) = ap length one.2 in
          let some : 1 ≤ length (drop (length input) bytes) = omega (arith, length-drop (length input) bytes) in
          let fits : length one.1 < 2 ^ 64 = omega (arith, length-element one.0 one.1) in
          outside (drop (length input) bytes, one.0, one.1, some, fits, sym text ∙ one.2))
      | inr short ↦ none value (bytes, drop (length bytes) input, read, prefix bytes input rest more short (sym e))
    ]

no_whole : {T : Type 0} (reads : T → List ℕ → Type 0) → ((value : T) (bytes : List ℕ) → reads value bytes → IsAnElement bytes) → (input : List ℕ)
    → (EndsInside input → ⊥) → ((value : T) → reads value input → ⊥) → NeverIs (IsReadBy reads) input
no_whole reads is_element input outside none [] small (value, read) = none value (subst (reads value) (append-nil input) read)
no_whole reads is_element input outside none (octet ∷ more) small (value, read) =
    let one = is_element value (input ++ (octet ∷ more)) read in
    let sizes : length (input ++ (octet ∷ more)) ≡ length (element one.0 one.1) = ap length one.2 in
    let fits : length one.1 < 2 ^ 64 = omega (arith, length-element one.0 one.1) in
    outside (octet ∷ more, one.0, one.1, omega arith, fits, one.2)

-- a refusal that isn't an excuse gives no value
no_gift : {T : Type 0} (seen : Seen T) (fault : Asn1DerError) (value : T) → Gives seen (Err fault) value → ⊥
no_gift as_is fault value e = cc (e)
no_gift (by V view) fault value e = e

is_memory : {T : Type 0} (answer : Result T Asn1DerError) (fault : Asn1DerError) → is_excuse fault ≡ false → answer ≡ Err fault → answer ≡ Err Memory → ⊥
is_memory answer fault hard is e = let same : fault ≡ Memory = cc (is, e) in false≢true (sym hard ∙ ap is_excuse same)

none_begins : {T : Type 0} (seen : Seen T) (reads : T → List ℕ → Type 0) (input : List ℕ) (fault : Asn1DerError) → is_excuse fault ≡ false
    → ReadsFront seen reads input (Err fault) → (value : T) → BeginsBy reads value input → ⊥
none_begins seen reads input fault hard (inl memory) value begins = is_memory (Err fault) fault hard refl memory
none_begins seen reads input fault hard (inr each) value begins = no_gift seen fault value ((each value).1 begins)

pub none_is : {T : Type 0} (seen : Seen T) (reads : T → List ℕ → Type 0) (input : List ℕ) (fault : Asn1DerError) → is_excuse fault ≡ false
    → ReadsWhole seen reads input (Err fault) → (value : T) → reads value input → ⊥
none_is seen reads input fault hard (inl memory) value read = is_memory (Err fault) fault hard refl memory
none_is seen reads input fault hard (inr each) value read = no_gift seen fault value ((each value).1 read)

-- so the refusal may name another fault
front_refused : {T : Type 0} (seen : Seen T) (reads : T → List ℕ → Type 0) (input : List ℕ) (fault : Asn1DerError) → ((value : T) → BeginsBy reads value input → ⊥)
    → ReadsFront seen reads input (Err fault)
front_refused seen reads input fault none = inr (λ value. (λ e. absurd (cc (e)), λ begins. absurd (none value begins)))

whole_refused : {T : Type 0} (seen : Seen T) (reads : T → List ℕ → Type 0) (input : List ℕ) (fault : Asn1DerError) → ((value : T) → reads value input → ⊥)
    → ReadsWhole seen reads input (Err fault)
whole_refused seen reads input fault none = inr (λ value. (λ e. absurd (cc (e)), λ read. absurd (none value read)))

excused_end : {T : Type 0} (reads : T → List ℕ → Type 0) (input : List ℕ) (fault : Asn1DerError) → is_excuse fault ≡ true
    → TellsEnd reads input fault × TellsWholeEnd reads input fault
excused_end reads input TruncatedData excuse = absurd (false≢true excuse)
excused_end reads input InvalidData excuse = absurd (false≢true excuse)
excused_end reads input UnsupportedValue excuse = absurd (false≢true excuse)
excused_end reads input UnsupportedType excuse = absurd (false≢true excuse)
excused_end reads input InvalidSink excuse = absurd (false≢true excuse)
excused_end reads input (Message rule) excuse = absurd (false≢true excuse)
excused_end reads input (Other kind) excuse = (tt, tt)
excused_end reads input Memory excuse = (tt, tt)

final_own : (fault : Asn1DerError) → is_excuse fault ≡ false → IsOwn (as_final fault)
final_own TruncatedData hard = tt
final_own InvalidData hard = tt
final_own UnsupportedValue hard = tt
final_own UnsupportedType hard = tt
final_own InvalidSink hard = tt
final_own (Message rule) hard = tt
final_own (Other kind) hard = absurd (false≢true (sym hard))
final_own Memory hard = tt

final_end : {T : Type 0} (reads : T → List ℕ → Type 0) (input : List ℕ) (fault : Asn1DerError) → is_excuse fault ≡ false
    → (EndsInside input → ⊥) × NeverBegins (IsReadBy reads) input → TellsEnd reads input (as_final fault)
final_end reads input TruncatedData hard never = never
final_end reads input InvalidData hard never = never
final_end reads input UnsupportedValue hard never = never
final_end reads input UnsupportedType hard never = never
final_end reads input InvalidSink hard never = never
final_end reads input (Message rule) hard never = never
final_end reads input (Other kind) hard never = tt
final_end reads input Memory hard never = tt

final_whole : {T : Type 0} (reads : T → List ℕ → Type 0) (input : List ℕ) (fault : Asn1DerError) → is_excuse fault ≡ false
    → (EndsInside input → ⊥) × NeverIs (IsReadBy reads) input → TellsWholeEnd reads input (as_final fault)
final_whole reads input TruncatedData hard never = never
final_whole reads input InvalidData hard never = never
final_whole reads input UnsupportedValue hard never = never
final_whole reads input UnsupportedType hard never = never
final_whole reads input InvalidSink hard never = never
final_whole reads input (Message rule) hard never = never
final_whole reads input (Other kind) hard never = tt
final_whole reads input Memory hard never = tt

-- what is said of the front of an input by the fault that its end names
pub named-front : {T : Type 0} (seen : Seen T) (reads : T → List ℕ → Type 0) → ((value : T) (bytes : List ℕ) → reads value bytes → IsAnElement bytes)
    → (input : List ℕ) (fault told : Asn1DerError) → ReadsFront seen reads input (Err fault) → IsOwn fault → IsNamed fault input told
    → ReadsFront seen reads input (Err told) × IsOwn told × TellsEnd reads input told
named-front seen reads is_element input fault told read own (inl (excuse, is)) =
    subst (λ f. ReadsFront seen reads input (Err f) × IsOwn f × TellsEnd reads input f) (sym is) (read, own, (excused_end reads input fault excuse).0)
named-front seen reads is_element input fault told read own (inr (hard, inl (is, inside))) =
    subst (λ f. ReadsFront seen reads input (Err f) × IsOwn f × TellsEnd reads input f) (sym is)
    (front_refused seen reads input TruncatedData (none_begins seen reads input fault hard read), tt, inside)
named-front seen reads is_element input fault told read own (inr (hard, inr (is, outside))) =
    let none = none_begins seen reads input fault hard read in
    subst (λ f. ReadsFront seen reads input (Err f) × IsOwn f × TellsEnd reads input f) (sym is)
    (front_refused seen reads input (as_final fault) none, final_own fault hard, final_end reads input fault hard (outside, no_continuation reads is_element input outside none))

-- and of a whole input
pub named-whole : {T : Type 0} (seen : Seen T) (reads : T → List ℕ → Type 0) → ((value : T) (bytes : List ℕ) → reads value bytes → IsAnElement bytes)
    → (input : List ℕ) (fault told : Asn1DerError) → ReadsWhole seen reads input (Err fault) → IsOwn fault → IsNamed fault input told
    → ReadsWhole seen reads input (Err told) × IsOwn told × TellsWholeEnd reads input told
named-whole seen reads is_element input fault told read own (inl (excuse, is)) =
    subst (λ f. ReadsWhole seen reads input (Err f) × IsOwn f × TellsWholeEnd reads input f) (sym is) (read, own, (excused_end reads input fault excuse).1)
named-whole seen reads is_element input fault told read own (inr (hard, inl (is, inside))) =
    subst (λ f. ReadsWhole seen reads input (Err f) × IsOwn f × TellsWholeEnd reads input f) (sym is)
    (whole_refused seen reads input TruncatedData (none_is seen reads input fault hard read), tt, inside)
named-whole seen reads is_element input fault told read own (inr (hard, inr (is, outside))) =
    let none = none_is seen reads input fault hard read in
    subst (λ f. ReadsWhole seen reads input (Err f) × IsOwn f × TellsWholeEnd reads input f) (sym is)
    (whole_refused seen reads input (as_final fault) none, final_own fault hard, final_whole reads input fault hard (outside, no_whole reads is_element input outside none))

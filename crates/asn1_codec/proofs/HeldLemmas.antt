-- What was taken of an element, and what a fault says of what comes next.
use Rattle.std.proofs.Common.{◌≡◌, inl, inr, ℕ, ◌+◌, ◌-◌, ◌<◌, ◌≤◌, ◌^◌, List, [], ◌∷◌, ◌++◌, length, take, replicate, Option, None, Some, Result, Ok, Err, IsErrAnd, refl, sym, ap, ◌∙◌, subst, arith, append_assoc, length-take}
use Rattle.std.specs.Prelude.{min}
use Rattle.std.specs.Io.KnownBytes.{Consumes, IsAtEnd}
use Rattle.std.proofs.KnownBytes.{Consumes-trans}
use Rattle.std.proofs.Math.Seq.{take-append-add}
use Rattle.std.proofs.lemmas.Bool.{cases_lt}
use Rattle.std.proofs.lemmas.List.{append-nil, length-append, length-replicate, length-take-le, take-append-le, take_all}
use Rattle.asn1_der.specs.Length.{length_octets, element}
use Rattle.asn1_der.proofs.Elements.{element-parts, length-element, length_octets-first}
use Rattle.asn1_der.specs.declared.error.Asn1DerError.{Asn1DerError}
use Rattle.asn1_der.specs.declared.error.Asn1DerError.TheVariants.{TruncatedData, InvalidData, UnsupportedValue, UnsupportedType, InvalidSink, Message, Other, Memory}
use Rattle.byte_streams.proofs.Parts.{take-put_mid_more}
use borrow.Rule.Slice.PartMut.{put_mid}
use Rattle.asn1_codec.specs.Held.{IsFilled, HasHeader, IsHeaderOf, TellsCut, TellsHeld, TellsLeft}
use Rattle.asn1_codec.specs.Lengths.{AreLengthOctets, IsFollowing, IsWanting}
use Rattle.asn1_codec.specs.Named.{IsAnElement, EndsInside, NeverBegins}
use Rattle.asn1_codec.specs.Reading.{IsOwn, result_faults}
use Rattle.asn1_codec.proofs.Chain.{own-faults}
use Rattle.asn1_codec.proofs.Lengths.{nothing, no_octet, no_length}
use Rattle.asn1_codec.proofs.NamedLemmas.{whole_text, nothing_inside, count_inside, length_inside, length_outside}

-- ---- filling

-- a read put octets at the end of a slice
pub filled_slice : (old new : Option (List ℕ)) (start count : ℕ) (before read : List ℕ) → start ≤ length before → length read ≡ length before - start
    → count ≤ length read → Consumes old new (take count read) → (count < length read → IsAtEnd new)
    → IsFilled (length before) old new (take start before) (take (start + count) (put_mid start (length before - start) before read))
filled_slice old new start count before read within size few took end =
    let joined = take-put_mid_more start (length before - start) count before read within few in
    let front : length (take start before) ≡ start = length-take-le start before within in
    let part : length (take count read) ≡ count = length-take-le count read few in
    let sizes : length (take (start + count) (put_mid start (length before - start) before read)) ≡ start + count =
    ap length joined ∙ length-append (take start before) (take count read) ∙ ap (λ n. n + length (take count read)) front ∙ ap (λ n. start + n) part in
    record {
      came = take count read;
      grown = joined;
      took = took;
      within = omega (arith, sizes);
      end = λ short. end (omega (arith, short, sizes));
    }

-- a vector holds octets and has room after them; a read writes into that room
pub filled_vector : (size start : ℕ) (old new : Option (List ℕ)) (held room lent filled after : List ℕ) → length held ≤ size → start ≡ length held
    → room ≡ take size held ++ replicate (size - length held) 0 → lent ≡ room → after ≡ filled → IsFilled (length lent) old new (take start lent) filled
    → IsFilled size old new held after
filled_vector size start old new held room lent filled after fits counted is loan kept done =
    let zeros : List ℕ = replicate (size - length held) 0 in
    let many : length zeros ≡ size - length held = length-replicate {A = ℕ} (size - length held) 0 in
    let text : lent ≡ held ++ zeros = loan ∙ is ∙ ap (λ l. l ++ zeros) (take_all size held fits) in
    let front : take start lent ≡ held =
    ap (take start) text ∙ ap (λ n. take n (held ++ zeros)) counted ∙ take-append-le (length held) held zeros (omega arith) ∙ take_all (length held) held (omega arith) in
    let sizes : length lent ≡ size = omega (arith, ap length text, length-append held zeros, many, fits) in
    let first : IsFilled size old new (take start lent) filled = subst (λ n. IsFilled n old new (take start lent) filled) sizes done in
    let second : IsFilled size old new held filled = subst (λ l. IsFilled size old new l filled) front first in
    subst (IsFilled size old new held) (sym kept) second

-- the octets went back into the vector, which was cut behind them
pub kept_back : (count len : ℕ) (octets rest after : List ℕ) → after ≡ take count (take len (octets ++ rest)) → length octets ≡ len → after ≡ take count octets
kept_back count len octets rest after is whole =
    is ∙ ap (take count) (ap (λ n. take n (octets ++ rest)) (sym whole) ∙ take-append-le (length octets) octets rest (omega arith) ∙ take_all (length octets) octets (omega arith))

-- what was taken first, and then further
pub filled_took : (n : ℕ) (old mid : Option (List ℕ)) (before held : List ℕ) → before ≡ [] → IsFilled n old mid before held → Consumes old mid held
filled_took n old mid before held start first = subst (Consumes old mid) (sym (first.grown ∙ ap (λ l. l ++ first.came) start)) first.took

pub took_behind : (b : ℕ) (old mid new : Option (List ℕ)) (x y : List ℕ) → Consumes old mid x → IsFilled b mid new x y → Consumes old new y
took_behind b old mid new x y took more = subst (Consumes old new) (sym more.grown) (Consumes-trans old mid new x more.came took more.took)

pub filled_behind : (b : ℕ) (old mid new : Option (List ℕ)) (x y : List ℕ) → Consumes old mid x → IsFilled b mid new x y → IsFilled b old new [] y
filled_behind b old mid new x y took more = record {
  came = y;
  grown = refl;
  took = took_behind b old mid new x y took more;
  within = more.within;
  end = more.end;
}

-- ---- what a fault says

-- a fault that says so of each front that the held octets begin says so of the source's
pub told_next : (limit size : ℕ) (old new : Option (List ℕ)) (held : List ℕ) (fault : Asn1DerError) → IsFilled (min limit size) old new [] held
    → TellsHeld limit size held fault → TellsLeft limit old fault
told_next limit size None new held fault filled tells = tt
told_next limit size (Some input) None held fault filled tells = absurd filled.took
told_next limit size (Some input) (Some rest) held fault filled tells =
    let room : ℕ = limit - length held in
    let tail : List ℕ = take room rest in
    let sizes : length tail ≡ min room (length rest) = length-take room rest in
    let is : input ≡ held ++ rest = filled.took ∙ ap (λ l. l ++ rest) (sym filled.grown) in
    let few : length held ≤ min limit size = filled.within in
    let fits : limit ≡ length held + room = omega (arith, few) in
    let front : take limit input ≡ held ++ tail = ap (take limit) is ∙ ap (λ n. take n (held ++ rest)) fits ∙ take-append-add held rest room in
    let within : length (held ++ tail) ≤ limit = omega (arith, length-append held tail, sizes, fits) in
    let none : length held < size → tail ≡ [] = λ short. nothing tail (none_behind held tail rest short filled.end sizes) in
    subst (λ l. TellsCut l fault) (sym front) (tells tail within none)
  where
    none_behind : (h t r : List ℕ) → length h < size → (length h < min limit size → r ≡ []) → length t ≡ min (limit - length h) (length r) → length t ≡ 0
    none_behind h t r short end many =
        elim (cases_lt (length h) limit) [
          | inl inside ↦ (let gone : r ≡ [] = end (omega (arith, short, inside)) in omega (arith, many, ap length gone))
          | inr outside ↦ omega (arith, many, outside)
        ]

-- the first two octets say so, or all of the header
pub told_first : (limit n : ℕ) (old mid : Option (List ℕ)) (before held text : List ℕ) (fault : Asn1DerError) → before ≡ [] → n ≡ min limit 2 → text ≡ held
    → IsFilled n old mid before held → ((l : ℕ) → TellsHeld l 2 text fault) → TellsLeft limit old fault
told_first limit n old mid before held text fault start least same filled tells =
    let took : Consumes old mid held = filled_took n old mid before held start filled in
    let again : IsFilled (min limit 2) old mid [] held = record {
      came = held;
      grown = refl;
      took = took;
      within = omega (arith, filled.within, least);
      end = λ short. filled.end (omega (arith, short, least));
    } in
    told_next limit 2 old mid held fault again (subst (λ l. TellsHeld limit 2 l fault) same (tells limit))

pub took_twice : (n m : ℕ) (old mid new : Option (List ℕ)) (before held after : List ℕ) → before ≡ [] → IsFilled n old mid before held
    → IsFilled m mid new held after → Consumes old new after
took_twice n m old mid new before held after start first second =
    let took : Consumes old mid held = filled_took n old mid before held start first in
    filled_took m old new [] after refl (filled_behind m old mid new held after took second)

pub told_second : (limit n m size : ℕ) (old mid new : Option (List ℕ)) (before held after text : List ℕ) (fault : Asn1DerError) → before ≡ []
    → IsFilled n old mid before held → m ≡ min limit size → text ≡ after → IsFilled m mid new held after → TellsHeld limit size text fault
    → TellsLeft limit old fault
told_second limit n m size old mid new before held after text fault start first least same second tells =
    let took : Consumes old mid held = filled_took n old mid before held start first in
    let whole : IsFilled m old new [] after = filled_behind m old mid new held after took second in
    told_next limit size old new after fault (subst (λ k. IsFilled k old new [] after) least whole) (subst (λ l. TellsHeld limit size l fault) same tells)

-- nothing is held, or an identifier octet alone
pub none_held : (limit size : ℕ) (held : List ℕ) → 1 ≤ size → length held ≡ 0 → TellsHeld limit size held TruncatedData
none_held limit size held some none tail within ends =
    let short : length held < size = omega (arith, none, some) in
    let text : held ++ tail ≡ [] = ap (λ l. held ++ l) (ends short) ∙ append-nil held ∙ nothing held none in
    subst EndsInside (sym text) nothing_inside

pub one_held : (limit first : ℕ) (held behind : List ℕ) → held ≡ first ∷ behind → length behind ≡ 0 → TellsHeld limit 2 held TruncatedData
one_held limit first held behind is none tail within ends =
    let short : length held < 2 = omega (arith, ap length is, none) in
    let text : held ++ tail ≡ first ∷ [] = ap (λ l. held ++ l) (ends short) ∙ append-nil held ∙ is ∙ ap (λ l. first ∷ l) (nothing behind none) in
    subst EndsInside (sym text) (length_inside first [] no_octet)

-- an element begins with an identifier octet and length octets
never_length : (first : ℕ) (behind : List ℕ) → IsWanting AreLengthOctets behind InvalidData → NeverBegins IsAnElement (first ∷ behind)
never_length first behind wants more bytes rest small (other, content, is) e =
    let parts : first ∷ (behind ++ more) ≡ other ∷ (length_octets (length content) ++ (content ++ rest)) =
    e ∙ ap (λ l. l ++ rest) is ∙ element-parts other content rest in
    let fits : length content < 2 ^ 64 = omega (arith, length-element other content, ap length is, small) in
    wants more (length_octets (length content)) (content ++ rest) (length content, fits, refl) (cc (parts))

never_on : (behind tail : List ℕ) → IsWanting AreLengthOctets behind InvalidData → IsWanting AreLengthOctets (behind ++ tail) InvalidData
never_on behind tail wants more front rest p e = wants (tail ++ more) front rest p (sym (append_assoc behind tail more) ∙ e)

never_held : (limit size first : ℕ) (held behind : List ℕ) → held ≡ first ∷ behind → IsWanting AreLengthOctets behind InvalidData
    → TellsHeld limit size held InvalidData
never_held limit size first held behind is wants tail within ends =
    let on : IsWanting AreLengthOctets (behind ++ tail) InvalidData = never_on behind tail wants in
    subst (λ l. TellsCut (l ++ tail) InvalidData) (sym is) (length_outside first (behind ++ tail) on, never_length first (behind ++ tail) on)

-- no length octets begin with the second octet
pub no_header : (limit first second : ℕ) (held behind rest : List ℕ) → held ≡ first ∷ behind → behind ≡ second ∷ rest
    → ((n : ℕ) → n < 2 ^ 64 → (rest : List ℕ) → length_octets n ≡ second ∷ rest → ⊥) → TellsHeld limit 2 held InvalidData
no_header limit first second held behind rest is also none =
    never_held limit 2 first held behind is (subst (λ (l : List ℕ). IsWanting AreLengthOctets l InvalidData) (sym also) (no_length second rest none))

pub has_header : (first second more : ℕ) (held behind rest : List ℕ) → held ≡ first ∷ behind → behind ≡ second ∷ rest → IsFollowing second more
    → HasHeader held (2 + more)
has_header first second more held behind rest is also follows = (first, second, rest, more, is ∙ ap (λ l. first ∷ l) also, refl, follows)

-- it stays so if further octets are taken
header_on : (size : ℕ) (held came after : List ℕ) → HasHeader held size → after ≡ held ++ came → HasHeader after size
header_on size held came after (first, second, rest, more, is, total, follows) grown =
    (first, second, rest ++ came, more, grown ∙ ap (λ l. l ++ came) is, total, follows)

pub header_further : (size m : ℕ) (mid new : Option (List ℕ)) (first held after text : List ℕ) → HasHeader first size → first ≡ held → text ≡ after
    → IsFilled m mid new held after → HasHeader text size
header_further size m mid new first held after text has same again filled =
    header_on size held filled.came text (subst (λ l. HasHeader l size) same has) (again ∙ filled.grown)

-- the octets after the first are no length octets
pub told_length : (limit size first : ℕ) (held behind : List ℕ) (fault : Asn1DerError) → held ≡ first ∷ behind → HasHeader held size
    → IsWanting AreLengthOctets behind fault → TellsHeld limit size held fault
told_length limit size first held behind TruncatedData is (one, two, rest, more, text, total, follows) wants tail within ends =
    let same : behind ≡ two ∷ rest = cc (sym is ∙ text) in
    let parts : length_octets wants.1.0 ≡ two ∷ (rest ++ wants.0) = sym wants.1.2 ∙ ap (λ l. l ++ wants.0) same in
    let sizes : length (rest ++ wants.0) ≡ more = follows.1 wants.1.0 (rest ++ wants.0) parts in
    let short : length held < size = omega (arith, ap length text, total, sizes, length-append rest wants.0, wants.2) in
    let front : held ++ tail ≡ first ∷ behind = ap (λ l. held ++ l) (ends short) ∙ append-nil held ∙ is in
    subst EndsInside (sym front) (length_inside first behind wants)
told_length limit size first held behind InvalidData is has wants tail within ends = never_held limit size first held behind is wants tail within ends
told_length limit size first held behind UnsupportedValue is has wants tail within ends = absurd wants
told_length limit size first held behind UnsupportedType is has wants tail within ends = absurd wants
told_length limit size first held behind InvalidSink is has wants tail within ends = absurd wants
told_length limit size first held behind (Message rule) is has wants tail within ends = absurd wants
told_length limit size first held behind (Other kind) is has wants tail within ends = absurd wants
told_length limit size first held behind Memory is has wants tail within ends = absurd wants

-- nothing is held behind the length octets
pub whole_header : (size first count : ℕ) (held behind left : List ℕ) → held ≡ first ∷ behind → behind ≡ length_octets count ++ left → HasHeader held size
    → length held ≤ size → held ≡ first ∷ length_octets count
whole_header size first count held behind left is also (one, two, rest, more, text, total, follows) few =
    let begins = length_octets-first count in
    let same : behind ≡ two ∷ rest = cc (sym is ∙ text) in
    let heads : two ∷ rest ≡ begins.octet ∷ (begins.rest ++ left) = sym same ∙ also ∙ ap (λ l. l ++ left) begins.is in
    let head : two ≡ begins.octet = cc (heads) in
    let behind_it : rest ≡ begins.rest ++ left = cc (heads) in
    let many : length begins.rest ≡ more = follows.1 count begins.rest (begins.is ∙ ap (λ o. o ∷ begins.rest) (sym head)) in
    let none : length left ≡ 0 = omega (arith, ap length text, ap length behind_it, length-append begins.rest left, few, total, many) in
    is ∙ ap (λ l. first ∷ l) (also ∙ ap (λ l. length_octets count ++ l) (nothing left none) ∙ append-nil (length_octets count))

-- the content goes past the limit
pub told_room : (limit size first count : ℕ) (held behind left : List ℕ) → held ≡ first ∷ behind → behind ≡ length_octets count ++ left → HasHeader held size
    → length held ≤ size → count < 2 ^ 64 → limit - length held < count → length held ≤ limit → TellsHeld limit size held TruncatedData
told_room limit size first count held behind left is also has few small past fits tail within ends =
    let whole = whole_header size first count held behind left is also has few in
    let short : length tail < count = omega (arith, length-append held tail, within, past, fits) in
    subst (λ l. EndsInside (l ++ tail)) (sym whole) (count_inside first count tail small short)

pub is_header : (limit size first count : ℕ) (held behind left : List ℕ) → held ≡ first ∷ behind → behind ≡ length_octets count ++ left → HasHeader held size
    → length held ≤ size → count < 2 ^ 64 → count ≤ limit - length held → length held ≤ limit
    → IsHeaderOf held (length held + count) × (length held + count ≤ limit)
is_header limit size first count held behind left is also has few small room fits =
    ((first, count, small, whole_header size first count held behind left is also has few, refl), omega (arith, room, fits))

-- ---- the element

-- all its octets are held
pub is_element : (size : ℕ) (mid new : Option (List ℕ)) (header held : List ℕ) → IsHeaderOf header size → IsFilled size mid new header held → size ≤ length held
    → IsAnElement held
is_element size mid new header held (first, count, small, is, total) filled whole =
    let sizes : length held ≡ length header + length filled.came = ap length filled.grown ∙ length-append header filled.came in
    let many : length filled.came ≡ count = omega (arith, sizes, total, whole, filled.within) in
    (first, filled.came, filled.grown ∙ ap (λ l. l ++ filled.came) is ∙ whole_text first count filled.came many)

-- the source ended inside it
pub told_content : (limit size : ℕ) (old mid new : Option (List ℕ)) (header held : List ℕ) → IsHeaderOf header size → Consumes old mid header
    → IsFilled size mid new header held → size ≤ limit → length held < size → TellsLeft limit old TruncatedData
told_content limit size old mid new header held has took filled fits short =
    let least : size ≡ min limit size = omega (arith, fits) in
    told_next limit size old new held TruncatedData (subst (λ n. IsFilled n old new [] held) least (filled_behind size old mid new header held took filled))
    (inside has)
  where
    inside : IsHeaderOf header size → TellsHeld limit size held TruncatedData
    inside (first, count, small, is, total) tail within ends =
        let sizes : length held ≡ length header + length filled.came = ap length filled.grown ∙ length-append header filled.came in
        let few : length filled.came < count = omega (arith, sizes, total, short) in
        let text : held ++ tail ≡ (first ∷ length_octets count) ++ filled.came =
        ap (λ l. held ++ l) (ends short) ∙ append-nil held ∙ filled.grown ∙ ap (λ l. l ++ filled.came) is in
        subst EndsInside (sym text) (count_inside first count filled.came small few)

-- ---- faults

-- a fault of length octets is no device's
pub wanting_own : (P : List ℕ → Type 0) (input : List ℕ) (fault : Asn1DerError) → IsWanting P input fault → IsOwn fault
wanting_own P input TruncatedData wants = tt
wanting_own P input InvalidData wants = tt
wanting_own P input UnsupportedValue wants = absurd wants
wanting_own P input UnsupportedType wants = absurd wants
wanting_own P input InvalidSink wants = absurd wants
wanting_own P input (Message rule) wants = absurd wants
wanting_own P input (Other kind) wants = absurd wants
wanting_own P input Memory wants = absurd wants

-- the exit of a `?` on a fault of no device counts no failed call
pub own_exit : {T : Type 0} (r : Result T Asn1DerError) (fault : Asn1DerError) (n : ℕ) → IsErrAnd r (λ y. y ≡ fault) → IsOwn fault → result_faults r n ≡ n
own_exit (Ok value) fault n is own = absurd is
own_exit (Err told) fault n is own = own-faults told n (subst IsOwn (sym is) own)

-- What comes next from a source, by single octets and by lengths.
use Rattle.std.proofs.Common.{◌≡◌, ℕ, suc, ◌+◌, ◌^◌, ◌<◌, ◌≤◌, List, [], ◌∷◌, ◌++◌, length, take, Option, None, Some, sym, ap, subst, ◌∙◌, arith, append_assoc}
use Rattle.std.proofs.lemmas.List.{append-nil, length-append, take-append-le}
use Rattle.std.specs.Io.KnownBytes.{Consumes, IsAtEnd}
use Rattle.std.proofs.KnownBytes.{Consumes-trans}
use Rattle.asn1_der.specs.Length.{length_octets}
use Rattle.asn1_der.proofs.Elements.{length_octets-first}
use Rattle.asn1_codec.specs.Lengths.{AreLengthOctets, IsFollowing, IsWanting}
use Rattle.picky_asn1_der.specs.Streams.{IsNoOctet, IsWantingIn, IsWantingNext}
use Rattle.asn1_codec.proofs.Lengths.{no_octet, no_length, nothing}
use Rattle.asn1_der.specs.declared.error.Asn1DerError.{Asn1DerError}
use Rattle.asn1_der.specs.declared.error.Asn1DerError.TheVariants.{TruncatedData, InvalidData, UnsupportedValue, UnsupportedType, InvalidSink, Message, Other, Memory}

-- where nothing was taken up to the end, the end was there before
pub end_before : (old new : Option (List ℕ)) → Consumes old new [] → IsAtEnd new → IsAtEnd old
end_before None new took end = tt
end_before (Some xs) None took end = absurd took
end_before (Some xs) (Some ys) took end = took ∙ end

end_wanting : (left : Option (List ℕ)) → IsAtEnd left → IsWantingIn AreLengthOctets left TruncatedData
end_wanting None end = tt
end_wanting (Some xs) end = subst (λ (l : List ℕ). IsWanting AreLengthOctets l TruncatedData) (sym end) no_octet

-- where no octet is next, no length is
pub no_next_octet : (left : Option (List ℕ)) (fault : Asn1DerError) → IsNoOctet left fault → IsWantingNext AreLengthOctets left fault
no_next_octet left TruncatedData wants = end_wanting left wants
no_next_octet left InvalidData wants = absurd wants
no_next_octet left UnsupportedValue wants = wants
no_next_octet left UnsupportedType wants = wants
no_next_octet left InvalidSink wants = wants
no_next_octet left (Message rule) wants = wants
no_next_octet left (Other kind) wants = tt
no_next_octet left Memory wants = wants

-- the octet that was taken begins no length
pub no_next_length : (old mid : Option (List ℕ)) (first : ℕ) → Consumes old mid (first ∷ [])
    → ((n : ℕ) → n < 2 ^ 64 → (rest : List ℕ) → length_octets n ≡ first ∷ rest → ⊥) → IsWantingIn AreLengthOctets old InvalidData
no_next_length None mid first took never = tt
no_next_length (Some xs) None first took never = absurd took
no_next_length (Some xs) (Some ys) first took never =
    subst (λ (l : List ℕ). IsWanting AreLengthOctets l InvalidData) (sym took) (no_length first ys never)

-- octets that nothing wanted goes on from
wrong_front : (front tail : List ℕ) → IsWanting AreLengthOctets front InvalidData → IsWanting AreLengthOctets (front ++ tail) InvalidData
wrong_front front tail wants = λ further bytes rest p e. wants (tail ++ further) bytes rest p (sym (append_assoc front tail further) ∙ e)

wrong_in : (old new : Option (List ℕ)) (octets : List ℕ) → Consumes old new octets → IsWanting AreLengthOctets octets InvalidData
    → IsWantingIn AreLengthOctets old InvalidData
wrong_in None new octets took wants = tt
wrong_in (Some xs) None octets took wants = absurd took
wrong_in (Some xs) (Some ys) octets took wants =
    subst (λ (l : List ℕ). IsWanting AreLengthOctets l InvalidData) (sym took) (wrong_front octets ys wants)

-- octets up to the end
short_in : (old new : Option (List ℕ)) (octets : List ℕ) → Consumes old new octets → IsAtEnd new → IsWanting AreLengthOctets octets TruncatedData
    → IsWantingIn AreLengthOctets old TruncatedData
short_in None new octets took end wants = tt
short_in (Some xs) None octets took end wants = absurd took
short_in (Some xs) (Some ys) octets took end wants =
    subst (λ (l : List ℕ). IsWanting AreLengthOctets l TruncatedData) (sym (took ∙ ap (λ l. octets ++ l) end ∙ append-nil octets)) wants

-- length octets are as many as the first asks for
last_octet : (first count : ℕ) (read further : List ℕ) → IsFollowing first count → AreLengthOctets ((first ∷ read) ++ further)
    → length read + length further ≡ count
last_octet first count read further follows (n, small, is) =
    omega (arith, length-append read further, follows.1 n (read ++ further) (sym is))

-- octets were taken, fewer than the first asks for only at the end, and no length begins with them
next_wanting : (old mid new : Option (List ℕ)) (first count : ℕ) (read : List ℕ) (fault : Asn1DerError) → Consumes old mid (first ∷ []) → Consumes mid new read
    → IsFollowing first count → (length read < count → IsAtEnd new) → IsWanting AreLengthOctets (first ∷ read) fault
    → IsWantingNext AreLengthOctets old fault
next_wanting old mid new first count read TruncatedData took also follows end wants =
    let sum = last_octet first count read wants.0 follows wants.1 in
    short_in old new (first ∷ read) (Consumes-trans old mid new (first ∷ []) read took also) (end (omega (arith, sum, wants.2))) wants
next_wanting old mid new first count read InvalidData took also follows end wants =
    wrong_in old new (first ∷ read) (Consumes-trans old mid new (first ∷ []) read took also) wants
next_wanting old mid new first count read UnsupportedValue took also follows end wants = wants
next_wanting old mid new first count read UnsupportedType took also follows end wants = wants
next_wanting old mid new first count read InvalidSink took also follows end wants = wants
next_wanting old mid new first count read (Message rule) took also follows end wants = wants
next_wanting old mid new first count read (Other kind) took also follows end wants = tt
next_wanting old mid new first count read Memory took also follows end wants = wants

-- the same of octets under another name
pub wanting_next : (old mid new : Option (List ℕ)) (first count : ℕ) (read octets : List ℕ) (fault : Asn1DerError) → octets ≡ first ∷ read
    → Consumes old mid (first ∷ []) → Consumes mid new read → IsFollowing first count → (length read < count → IsAtEnd new)
    → IsWanting AreLengthOctets octets fault → IsWantingNext AreLengthOctets old fault
wanting_next old mid new first count read octets fault is took also follows end wants =
    next_wanting old mid new first count read fault took also follows end (subst (λ (l : List ℕ). IsWanting AreLengthOctets l fault) is wants)

-- the length whose octets were taken
pub next_length : (old mid new : Option (List ℕ)) (first count n : ℕ) (read rest : List ℕ) → Consumes old mid (first ∷ []) → Consumes mid new read
    → IsFollowing first count → length read ≤ count → first ∷ read ≡ length_octets n ++ rest → Consumes old new (length_octets n)
next_length old mid new first count n read rest took also follows few is =
    let begins = length_octets-first n in
    let text : first ∷ read ≡ begins.octet ∷ (begins.rest ++ rest) = is ∙ ap (λ l. l ++ rest) begins.is in
    let head : first ≡ begins.octet = cc (text) in
    let tail : read ≡ begins.rest ++ rest = cc (text) in
    let size : length begins.rest ≡ count = follows.1 n begins.rest (begins.is ∙ ap (λ o. o ∷ begins.rest) (sym head)) in
    let ended : length rest ≡ 0 = omega (arith, few, size, ap length tail, length-append begins.rest rest) in
    let whole : first ∷ read ≡ length_octets n = is ∙ ap (λ l. length_octets n ++ l) (nothing rest ended) ∙ append-nil (length_octets n) in
    subst (λ (l : List ℕ). Consumes old new l) whole (Consumes-trans old mid new (first ∷ []) read took also)

-- the octets that were read follow the first
pub read_part : (first count : ℕ) (new post : List ℕ) → count ≤ length new → take (1 + count) (first ∷ (new ++ post)) ≡ first ∷ take count new
read_part first count new post fits =
    let step : 1 + count ≡ suc count = omega arith in
    ap (λ k. take k (first ∷ (new ++ post))) step ∙ ap (λ l. first ∷ l) (take-append-le count new post fits)

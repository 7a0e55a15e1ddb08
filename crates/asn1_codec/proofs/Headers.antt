-- Identifier and length octets at the front of bytes.
use Rattle.std.proofs.Common.{Result, Ok, Err, MatchResult, subst, ◌≡◌, ℕ, ◌+◌, ◌≤◌, List, [], ◌∷◌, ◌++◌, length, refl, sym, ap, ◌∙◌, arith, append_assoc, length-take, take, ◌-◌, suc}
use lib.Seq.{take-append_seam}
use Rattle.asn1_der.specs.Length.{element, length_octets}
use Rattle.asn1_der.proofs.Elements.{element-split, element-begins, length-element, length_octets-one, length-length_octets-ge}
use Rattle.asn1_der.specs.declared.error.Asn1DerError.{Asn1DerError}
use Rattle.asn1_codec.specs.Reading.{Reading, Took, Refused, IsElement, IsLength, IsOctet}
use Rattle.asn1_codec.specs.Tails.{IsLengthTail, TookTail}
use Rattle.asn1_codec.proofs.Chain.{Cuts, took-as, took-join, refused-after}

-- some bytes are an octet and the rest
pub one_front : (bytes : List ℕ) → 1 ≤ length bytes → (c d : List ℕ) × IsOctet c × (bytes ≡ c ++ d)
one_front [] some = absurd (omega arith)
one_front (b ∷ bytes) some = (b ∷ [], bytes, refl, refl)

-- some bytes after the octet that they begin with
pub one_cut : (bytes rest more : List ℕ) (first : ℕ) → 1 ≤ length bytes → bytes ++ rest ≡ (first ∷ []) ++ more → (tail : List ℕ) × (bytes ≡ first ∷ tail) × (more ≡ tail ++ rest)
one_cut [] rest more first some e = absurd (omega arith)
one_cut (b ∷ bytes) rest more first some e = (bytes, ap (λ x. x ∷ bytes) (cc (e)), cc (e))

pub length_front : (limit : ℕ) (bytes : List ℕ) → IsLength limit bytes → (c d : List ℕ) × IsOctet c × (bytes ≡ c ++ d)
length_front limit bytes (count, fits, is) = one_front bytes (omega (arith, length-length_octets-ge count, ap length is))

pub length_cut : (limit first : ℕ) → Cuts (IsLength limit) (IsLengthTail limit first) (first ∷ []) limit
length_cut limit first bytes rest more (count, fits, is) e within =
    let parts = one_cut bytes rest more first (omega (arith, length-length_octets-ge count, ap length is)) e in
    (parts.0, rest, (count, fits, sym is ∙ parts.1), parts.2, omega (arith, ap length parts.1))

-- what was taken or refused behind the first length octet
pub length_tail : (first : ℕ) (old mid new : Reading) (answer : Result ℕ Asn1DerError) → Took (first ∷ []) old mid
    → MatchResult answer (λ count. TookTail first count mid new) (λ fault. Refused (IsLengthTail (1 + mid.limit) first) mid new fault)
    → MatchResult answer (λ count. Took (length_octets count) old new) (λ fault. Refused (IsLength old.limit) old new fault)
length_tail first old mid new (Ok count) took tail =
    took-as ((first ∷ []) ++ tail.0) (length_octets count) old new (sym tail.1) (took-join (first ∷ []) tail.0 old mid new took tail.2)
length_tail first old mid new (Err fault) took refused =
    refused-after (IsLength old.limit) (IsLengthTail (1 + mid.limit) first) (first ∷ []) old mid new fault took refused
    (subst (λ limit. Cuts (IsLength old.limit) (IsLengthTail limit first) (first ∷ []) old.limit) took.limit (length_cut old.limit first))

-- an element begins with its identifier octet
pub element_front : (tag : ℕ) (bytes : List ℕ) → IsElement tag bytes → (c d : List ℕ) × IsOctet c × (bytes ≡ c ++ d)
element_front tag bytes (content, is) = one_front bytes (omega (arith, length-element tag content, ap length is))

pub element_first : (tag first : ℕ) (bytes rest more : List ℕ) → IsElement tag bytes → bytes ++ rest ≡ (first ∷ []) ++ more → first ≡ tag
element_first tag first bytes rest more (content, is) e =
    sym (element-begins tag content first more rest (sym (ap (λ l. l ++ rest) is) ∙ e))

pub element_length_cut : (tag limit room : ℕ) → limit ≡ 1 + room → Cuts (IsElement tag) (IsLength room) (tag ∷ []) limit
element_length_cut tag limit room is_room bytes rest more (content, is) e within =
    let sizes = length-element tag content in
    let parts = one_cut bytes rest more tag (omega (arith, sizes, ap length is)) e in
    let tail : tag ∷ parts.0 ≡ (tag ∷ length_octets (length content)) ++ content = sym parts.1 ∙ is ∙ element-split tag content in
    let same : parts.0 ≡ length_octets (length content) ++ content = cc (tail) in (
      length_octets (length content),
      content ++ rest,
      (length content, omega (arith, sizes, ap length is, within, is_room, length-length_octets-ge (length content)), refl),
      parts.2 ∙ ap (λ l. l ++ rest) same ∙ append_assoc (length_octets (length content)) content rest,
      omega (arith, sizes, ap length is),
    )

-- behind identifier and length octets stands the content
pub element_content_cut : (tag count : ℕ) (bytes rest more : List ℕ) → IsElement tag bytes → bytes ++ rest ≡ (tag ∷ length_octets count) ++ more
    → (content : List ℕ) × (length content ≡ count) × (more ≡ content ++ rest) × (bytes ≡ element tag content)
element_content_cut tag count bytes rest more (content, is) e =
    let spelled : (tag ∷ length_octets (length content)) ++ (content ++ rest) ≡ (tag ∷ length_octets count) ++ more =
    sym (append_assoc (tag ∷ length_octets (length content)) content rest) ∙ ap (λ l. l ++ rest) (sym (element-split tag content)) ∙ ap (λ l. l ++ rest) (sym is) ∙ e in
    let tails : length_octets (length content) ++ (content ++ rest) ≡ length_octets count ++ more = cc (spelled) in
    let one = length_octets-one (length content) count (content ++ rest) more tails in
    (content, one.0, sym one.1, is)

-- the header's and the content's octets are the element's
pub header_sizes : (tag count : ℕ) (bytes content : List ℕ) → bytes ≡ element tag content → length content ≡ count
    → length (tag ∷ length_octets count) + length content ≡ length bytes
header_sizes tag count bytes content is same =
    let sizes = length-element tag content in
    let count_is : length (length_octets (length content)) ≡ length (length_octets count) = ap (λ n. length (length_octets n)) same in
    omega (arith, sizes, ap length is, count_is)

-- the octets that were read into the buffer follow the first
pub filled_size : (more : ℕ) (old new : List ℕ) → more ≤ 8 → length old ≡ 8 → length new ≡ length (take (1 + more - 1) old) → length new ≡ more
filled_size more old new small room same = omega (arith, length-take (1 + more - 1) old)

pub filled_front : (first more : ℕ) (new post : List ℕ) → length new ≡ more → take (1 + more) (first ∷ (new ++ post)) ≡ first ∷ new
filled_front first more new post same =
    let step : 1 + more ≡ suc (length new) = omega arith in
    ap (λ k. take k (first ∷ (new ++ post))) step ∙ ap (λ l. first ∷ l) (take-append_seam new post)

pub filled_all : (count : ℕ) (new post : List ℕ) → length new ≡ count → take count (new ++ post) ≡ new
filled_all count new post same = ap (λ n. take n (new ++ post)) (sym same) ∙ take-append_seam new post

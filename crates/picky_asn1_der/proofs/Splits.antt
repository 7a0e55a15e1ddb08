-- Inputs that begin with length octets, and with an element, and why others don't.
use Rattle.std.proofs.Common.{◌≡◌, ℕ, ◌+◌, ◌-◌, ◌%◌, ◌^◌, ◌<◌, ◌≤◌, false, true, List, [], ◌∷◌, ◌++◌, length, take, drop, replicate, refl, sym, ap, ◌∙◌, subst, arith, append_assoc}
use Rattle.std.proofs.lemmas.Grind.{common_steps}
use Rattle.std.proofs.lemmas.List.{append-nil, take_at, drop_at, length-append, length-replicate}
use Rattle.std.proofs.lemmas.Bool.{eqb-true}
use Rattle.std.specs.Prelude.{◌==◌}
use Rattle.asn1_der.specs.Length.{length_octets, element}
use Rattle.asn1_der.proofs.Elements.{element-parts, element-split, element-one, element-begins, length-element}
use Rattle.picky_asn1_der.specs.Raw.{Raw, has_low_number}
use Rattle.asn1_codec.specs.Lengths.{AreLengthOctets, IsWanting}
use Rattle.asn1_codec.proofs.Lengths.{element_joined, nothing}
use Rattle.picky_asn1_der.specs.Splits.{SplitsInto, IsNoSplit, IsOneElement, IsNotOne}
use Rattle.asn1_der.specs.declared.error.Asn1DerError.{Asn1DerError}
use Rattle.asn1_der.specs.declared.error.Asn1DerError.TheVariants.{TruncatedData, InvalidData, UnsupportedValue, UnsupportedType, InvalidSink, Message, Other, Memory}

-- an element of which a front of the content is there
filled : (first count : ℕ) (held : List ℕ) → has_low_number first ≡ true → count < 2 ^ 64 → length held ≤ count
    → IsOneElement (first ∷ (length_octets count ++ (held ++ replicate (count - length held) 0)))
filled first count held low small fits =
    let zeros : List ℕ = replicate (count - length held) 0 in
    let content : List ℕ = held ++ zeros in
    let size : length content ≡ count = rw (length-append held zeros, length-replicate {A = ℕ} (count - length held) 0) (omega arith) in
    let joined = element_joined first count content [] size in
    let text : first ∷ (length_octets count ++ content) ≡ element first content =
    ap (λ l. first ∷ (length_octets count ++ l)) (sym (append-nil content)) ∙ joined ∙ append-nil (element first content) in
    (record { first = first; content = content }, low, omega arith, text)

pub short_content : (first count : ℕ) (held : List ℕ) → has_low_number first ≡ true → count < 2 ^ 64 → length held < count
    → IsWanting IsOneElement (first ∷ (length_octets count ++ held)) TruncatedData
short_content first count held low small short =
    let zeros : List ℕ = replicate (count - length held) 0 in
    let size : length zeros ≡ count - length held = length-replicate {A = ℕ} (count - length held) 0 in
    let text : first ∷ (length_octets count ++ (held ++ zeros)) ≡ (first ∷ (length_octets count ++ held)) ++ zeros =
    ap (λ l. first ∷ l) (sym (append_assoc (length_octets count) held zeros)) in
    (zeros, subst IsOneElement text (filled first count held low small (omega arith)), omega arith)

-- what is wanting of the length is wanting of the element
pub length_wanting : (first : ℕ) (behind : List ℕ) (fault : Asn1DerError) → has_low_number first ≡ true → IsWanting AreLengthOctets behind fault → IsWanting IsOneElement (first ∷ behind) fault
length_wanting first behind TruncatedData low wants =
    let more = wants.0 in
    let count = wants.1.0 in
    let small = wants.1.1 in
    let some = wants.2 in
    let zeros : List ℕ = replicate (count - 0) 0 in
    let whole = filled first count [] low small (omega arith) in
    let text : first ∷ (length_octets count ++ zeros) ≡ (first ∷ behind) ++ (more ++ zeros) =
    ap (λ l. first ∷ (l ++ zeros)) (sym wants.1.2) ∙ ap (λ l. first ∷ l) (append_assoc behind more zeros) in
    (more ++ zeros, subst IsOneElement text whole, omega (arith, length-append more zeros))
length_wanting first behind InvalidData low wants = λ more bytes rest one e.
    let raw = one.0 in
    let parts : raw.first ∷ (length_octets (length raw.content) ++ (raw.content ++ rest)) ≡ first ∷ (behind ++ more) =
    sym (element-parts raw.first raw.content rest) ∙ ap (λ l. l ++ rest) (sym one.3) ∙ sym e in
    wants more (length_octets (length raw.content)) (raw.content ++ rest) (length raw.content, one.2, refl) (sym (cc (parts)))
length_wanting first behind UnsupportedValue low wants = absurd wants
length_wanting first behind UnsupportedType low wants = absurd wants
length_wanting first behind InvalidSink low wants = absurd wants
length_wanting first behind (Message rule) low wants = absurd wants
length_wanting first behind (Other kind) low wants = absurd wants
length_wanting first behind Memory low wants = absurd wants

-- no identifier octet, and one whose tag's number is in further octets
pub no_identifier : IsWanting IsOneElement [] TruncatedData
no_identifier =
    let whole = filled 0 0 [] refl (omega arith) (omega arith) in
    (0 ∷ (length_octets 0 ++ []), whole, omega arith)

pub high_number : (first : ℕ) (behind : List ℕ) → first % 32 ≡ 31 → IsWanting IsOneElement (first ∷ behind) InvalidData
high_number first behind high more bytes rest (raw, low, small, is) e =
    let same : raw.first ≡ first = element-begins raw.first raw.content first (behind ++ more) rest (ap (λ l. l ++ rest) (sym is) ∙ sym e) in
    let number : raw.first % 32 ≡ 31 = ap (λ n. n % 32) same ∙ high in
    absurd (grind (arith, common_steps, low, number))

-- where something is wanting, no element begins the input
pub no_split : (input : List ℕ) (fault : Asn1DerError) → length input < 2 ^ 64 → IsWanting IsOneElement input fault → IsNoSplit input
no_split input TruncatedData small wants = λ other rest split.
    let more = wants.0 in
    let raw = wants.1.0 in
    let some = wants.2 in
    let text : element other.first other.content ++ (rest ++ more) ≡ element raw.first raw.content ++ [] =
    sym (append_assoc (element other.first other.content) rest more) ∙ ap (λ l. l ++ more) (sym split.1) ∙ wants.1.3 ∙ sym (append-nil (element raw.first raw.content)) in
    let none : rest ++ more ≡ [] = (element-one other.first raw.first other.content raw.content (rest ++ more) [] text).2 in
    let sizes : length (rest ++ more) ≡ 0 = ap length none in
    omega (arith, length-append rest more)
no_split input InvalidData small wants = λ raw rest split.
    let sizes : length input ≡ length (element raw.first raw.content) + length rest = ap length split.1 ∙ length-append (element raw.first raw.content) rest in
    let parts = length-element raw.first raw.content in
    wants [] (element raw.first raw.content) rest (raw, split.0, omega arith, refl) (append-nil input ∙ split.1)
no_split input UnsupportedValue small wants = λ _ _ _. wants
no_split input UnsupportedType small wants = λ _ _ _. wants
no_split input InvalidSink small wants = λ _ _ _. wants
no_split input (Message rule) small wants = λ _ _ _. wants
no_split input (Other kind) small wants = λ _ _ _. wants
no_split input Memory small wants = λ _ _ _. wants

-- an element is split off: where its content and what is behind it stand
pub splits : (input behind held content rest : List ℕ) (first count : ℕ) → input ≡ first ∷ behind → behind ≡ length_octets count ++ held
    → held ≡ content ++ rest → length content ≡ count → input ≡ element first content ++ rest
splits input behind held content rest first count is_input is_behind is_held size =
    is_input ∙ ap (λ l. first ∷ l) (is_behind ∙ ap (λ l. length_octets count ++ l) is_held) ∙ element_joined first count content rest size

pub whole_of : (input whole text rest : List ℕ) → input ≡ text ++ rest → whole ≡ take (length input - length rest) input → whole ≡ text
whole_of input whole text rest is front =
    let sizes : length input ≡ length text + length rest = ap length is ∙ length-append text rest in
    let size : length text ≡ length input - length rest = omega arith in
    front ∙ ap (λ l. take (length input - length rest) l) is ∙ take_at text rest (length input - length rest) size

-- the same of the whole input, of which no element is a front
pub wanting_behind : (input behind : List ℕ) (first : ℕ) (fault : Asn1DerError) → length input < 2 ^ 64 → input ≡ first ∷ behind → has_low_number first ≡ true
    → IsWanting AreLengthOctets behind fault → IsNoSplit input × IsWanting IsOneElement input fault
wanting_behind input behind first fault small is low wants =
    let whole : IsWanting IsOneElement input fault = rw is (length_wanting first behind fault low wants) in
    (no_split input fault small whole, whole)

pub wanting_content : (input behind held : List ℕ) (first count : ℕ) → length input < 2 ^ 64 → input ≡ first ∷ behind → behind ≡ length_octets count ++ held
    → has_low_number first ≡ true → count < 2 ^ 64 → length held < count → IsNoSplit input × IsWanting IsOneElement input TruncatedData
wanting_content input behind held first count small is also low fits short =
    let whole : IsWanting IsOneElement input TruncatedData = rw (is, also) (short_content first count held low fits short) in
    (no_split input TruncatedData small whole, whole)

-- bytes that no element begins are none
pub not_one : (bytes : List ℕ) (fault : Asn1DerError) → IsNoSplit bytes → IsWanting IsOneElement bytes fault → IsNotOne bytes fault
not_one bytes TruncatedData none wants =
    (λ one. none one.0 [] (one.1, one.3 ∙ sym (append-nil (element one.0.first one.0.content))), (wants.0, wants.1))
not_one bytes InvalidData none wants = λ more one. wants more (bytes ++ more) [] one (sym (append-nil (bytes ++ more)))
not_one bytes UnsupportedValue none wants = wants
not_one bytes UnsupportedType none wants = wants
not_one bytes InvalidSink none wants = wants
not_one bytes (Message rule) none wants = wants
not_one bytes (Other kind) none wants = wants
not_one bytes Memory none wants = wants

-- bytes that an element begins, with something behind it, are none
pub not_all : (bytes rest : List ℕ) (raw : Raw) → SplitsInto bytes raw rest → 1 ≤ length rest → IsNotOne bytes InvalidData
not_all bytes rest raw split some = λ more one.
    let text : element raw.first raw.content ++ (rest ++ more) ≡ element one.0.first one.0.content ++ [] =
    sym (append_assoc (element raw.first raw.content) rest more) ∙ ap (λ l. l ++ more) (sym split.1) ∙ one.3 ∙ sym (append-nil (element one.0.first one.0.content)) in
    let none : rest ++ more ≡ [] = (element-one raw.first one.0.first raw.content one.0.content (rest ++ more) [] text).2 in
    let sizes : length (rest ++ more) ≡ 0 = ap length none in
    omega (arith, length-append rest more)

-- where the content of one element begins
pub content_start : (bytes rest content : List ℕ) (raw : Raw) → SplitsInto bytes raw rest → length rest ≡ 0 → content ≡ raw.content
    → (length bytes - length content ≤ length bytes) × (drop (length bytes - length content) bytes ≡ raw.content) × (bytes ≡ element raw.first raw.content)
content_start bytes rest content raw split none same =
    let whole : bytes ≡ element raw.first raw.content =
    split.1 ∙ ap (λ l. element raw.first raw.content ++ l) (nothing rest none) ∙ append-nil (element raw.first raw.content) in
    let sizes : length bytes ≡ length (element raw.first raw.content) = ap length whole in
    let parts = length-element raw.first raw.content in
    let header : List ℕ = raw.first ∷ length_octets (length raw.content) in
    let place : length header ≡ length bytes - length content = (let count : length content ≡ length raw.content = ap length same in omega arith) in
    let text : bytes ≡ header ++ raw.content = whole ∙ element-split raw.first raw.content in
    (omega arith, ap (λ l. drop (length bytes - length content) l) text ∙ drop_at header raw.content (length bytes - length content) place, whole)

-- an element that is put together of its header and its content
pub made : (first : ℕ) (content header bytes : List ℕ) (start : ℕ) → header ≡ first ∷ length_octets (length content) → bytes ≡ header ++ content → start ≡ length header
    → (start ≤ length bytes) × (bytes ≡ element first (drop start bytes))
made first content header bytes start is_header is_bytes is_start =
    let behind : drop start bytes ≡ content = ap (λ l. drop start l) is_bytes ∙ drop_at header content start (sym is_start) in
    let text : bytes ≡ element first content = is_bytes ∙ ap (λ l. l ++ content) is_header ∙ sym (element-split first content) in
    (omega (arith, ap length is_bytes, length-append header content), text ∙ ap (element first) (sym behind))

pub some_left : (rest : List ℕ) → false ≡ (length rest == 0) → 1 ≤ length rest
some_left [] none = absurd (cc (none))
some_left (x ∷ rest) none = omega arith

pub none_left : (rest : List ℕ) → true ≡ (length rest == 0) → length rest ≡ 0
none_left rest none = eqb-true (length rest) 0 (sym none)

pub content_fits : (bytes rest content : List ℕ) (raw : Raw) → SplitsInto bytes raw rest → content ≡ raw.content → length content ≤ length bytes
content_fits bytes rest content raw split same =
    let sizes : length bytes ≡ length (element raw.first raw.content) + length rest = ap length split.1 ∙ length-append (element raw.first raw.content) rest in
    let parts = length-element raw.first raw.content in
    let count : length content ≡ length raw.content = ap length same in
    omega arith

-- the one element that bytes are, by its identifier octet and where its content begins
pub held_parts : (bytes rest content : List ℕ) (raw : Raw) (first : ℕ) → SplitsInto bytes raw rest → true ≡ (length rest == 0) → content ≡ raw.content → first ≡ raw.first
    → (has_low_number first ≡ true) × (length bytes - length content ≤ length bytes) × (bytes ≡ element first (drop (length bytes - length content) bytes))
held_parts bytes rest content raw first split none same is =
    let parts = content_start bytes rest content raw split (none_left rest none) same in
    (ap has_low_number is ∙ split.0, parts.0, parts.2 ∙ ap (λ l. element raw.first l) (sym parts.1) ∙ ap (λ f. element f (drop (length bytes - length content) bytes)) (sym is))

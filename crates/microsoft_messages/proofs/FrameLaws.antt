-- Frames as a header and two parts, one behind the other.
use Rattle.std.proofs.Common.{◌≡◌, ℕ, ◌+◌, ◌≤◌, List, [], ◌++◌, length, take, drop, refl, ap, sym, subst, ◌∙◌, append_assoc, arith}
use Rattle.std.proofs.lemmas.List.{length-append, length-drop, length-take, take-append-drop, drop-drop, take_all, take_at, drop_at}
use Rattle.byte_streams.specs.Parts.{part, Stands}
use Rattle.byte_streams.specs.Numbers.{be16}
use Rattle.byte_streams.proofs.NumberLaws.{length-be16}
use Rattle.byte_streams.proofs.PartLaws.{stands-append, cut-append}
use Rattle.microsoft_messages.specs.Frames.{IsHeader, IsFramed, IsFrame, framed, frame_bytes}

-- a part between others follows those before it
pub stands-behind : (place : ℕ) (front bytes rest : List ℕ) → length front ≡ place → Stands (part place bytes) (front ++ (bytes ++ rest))
stands-behind place front bytes rest long =
    ap (take (length bytes)) (drop_at front (bytes ++ rest) place long) ∙ take_at bytes rest (length bytes) refl

-- the last part follows those before it, and nothing follows it
pub stands-last : (place : ℕ) (front bytes : List ℕ) → length front ≡ place → Stands (part place bytes) (front ++ bytes)
stands-last place front bytes long =
    ap (take (length bytes)) (drop_at front bytes place long) ∙ take_all (length bytes) bytes (omega arith)

pub frame-joined : (header ap_bytes private : List ℕ) → IsHeader header → IsFramed ap_bytes private (header ++ (ap_bytes ++ private))
frame-joined header ap_bytes private (long, version) =
    let inside : 2 + length (be16 1) ≤ length header = omega (arith, length-be16 1) in
    let front : length (header ++ ap_bytes) ≡ 6 + length ap_bytes = omega (arith, length-append header ap_bytes) in
    let last : Stands (part (6 + length ap_bytes) private) ((header ++ ap_bytes) ++ private) = stands-last (6 + length ap_bytes) (header ++ ap_bytes) private front in
    record {
      parts = (
        stands-append (part 2 (be16 1)) header (ap_bytes ++ private) inside version,
        (stands-behind 6 header ap_bytes private long, (subst (Stands (part (6 + length ap_bytes) private)) (append_assoc header ap_bytes private) last, tt)),
      );
      size = omega (arith, length-append header (ap_bytes ++ private), length-append ap_bytes private);
    }

-- what is cut from a place on, and is there
cut_there : (bytes whole : List ℕ) → take (length bytes) whole ≡ bytes → whole ≡ bytes ++ drop (length bytes) whole
cut_there bytes whole is = sym (take-append-drop (length bytes) whole) ∙ ap (λ (l : List ℕ). l ++ drop (length bytes) whole) is

-- the version that is in the whole is in its header
header-version : (header more whole : List ℕ) → whole ≡ header ++ more → 2 + length (be16 1) ≤ length header → Stands (part 2 (be16 1)) whole
    → Stands (part 2 (be16 1)) header
header-version header more whole all inside stands =
    sym (cut-append 2 (length (be16 1)) header more inside) ∙ ap (λ (l : List ℕ). take (length (be16 1)) (drop 2 l)) (sym all) ∙ stands

pub frame-split : (ap_bytes private whole : List ℕ) → IsFramed ap_bytes private whole
    → IsHeader (take 6 whole) × (whole ≡ take 6 whole ++ (ap_bytes ++ private))
frame-split ap_bytes private whole is =
    let size = is.size in
    let header = take 6 whole in
    let long : length header ≡ 6 = omega (arith, length-take 6 whole) in
    let behind = drop 6 whole in
    let rest = drop (length ap_bytes) behind in
    let rest_is : rest ≡ drop (6 + length ap_bytes) whole = drop-drop (length ap_bytes) 6 whole in
    let few : length rest ≤ length private = omega (arith, length-drop (length ap_bytes) behind, length-drop 6 whole) in
    let last : rest ≡ private =
    sym (take_all (length private) rest few) ∙ ap (take (length private)) rest_is ∙ is.parts.1.1.0 in
    let parts : behind ≡ ap_bytes ++ private = cut_there ap_bytes behind is.parts.1.0 ∙ ap (λ (l : List ℕ). ap_bytes ++ l) last in
    let all : whole ≡ header ++ (ap_bytes ++ private) = sym (take-append-drop 6 whole) ∙ ap (λ (l : List ℕ). header ++ l) parts in
    let inside : 2 + length (be16 1) ≤ length header = omega (arith, length-be16 1) in
    ((long, header-version header (ap_bytes ++ private) whole all inside is.parts.0), all)

-- a frame with its true lengths
pub frame-laid : (ap_bytes private : List ℕ) → IsFrame ap_bytes private (frame_bytes ap_bytes private)
frame-laid ap_bytes private =
    let count = be16 (6 + length ap_bytes + length private) in
    let size = be16 (length ap_bytes) in
    let two : length count ≡ 2 = length-be16 (6 + length ap_bytes + length private) in
    let version : length (be16 1) ≡ 2 = length-be16 1 in
    let also : length size ≡ 2 = length-be16 (length ap_bytes) in
    let behind = size ++ (ap_bytes ++ private) in
    let header = count ++ (be16 1 ++ size) in
    let long : length header ≡ 6 = omega (arith, length-append count (be16 1 ++ size), length-append (be16 1) size) in
    let four : length (count ++ be16 1) ≡ 4 = omega (arith, length-append count (be16 1)) in
    let regroup : header ++ (ap_bytes ++ private) ≡ frame_bytes ap_bytes private =
    append_assoc count (be16 1 ++ size) (ap_bytes ++ private) ∙ ap (λ (l : List ℕ). count ++ l) (append_assoc (be16 1) size (ap_bytes ++ private)) in
    let half : (count ++ be16 1) ++ behind ≡ frame_bytes ap_bytes private = append_assoc count (be16 1) behind in
    let is_header : IsHeader header = (long, stands-behind 2 count (be16 1) size two) in
    record {
      framed = subst (IsFramed ap_bytes private) regroup (frame-joined header ap_bytes private is_header);
      lengths = (
        stands-behind 0 [] count (be16 1 ++ behind) refl,
        (subst (Stands (part 4 size)) half (stands-behind 4 (count ++ be16 1) size (ap_bytes ++ private) four), tt),
      );
    }

-- the five parts of a frame, put one behind the other
pub five-put : (old h1 h2 h3 h4 h5 b1 b2 b3 b4 b5 c1 c2 c3 : List ℕ) → h1 ≡ old ++ b1 → h2 ≡ h1 ++ b2 → h3 ≡ h2 ++ b3 → h4 ≡ h3 ++ b4 → h5 ≡ h4 ++ b5
    → b1 ≡ c1 → b2 ≡ c2 → b3 ≡ c3 → h5 ≡ old ++ (c1 ++ (c2 ++ (c3 ++ (b4 ++ b5))))
five-put old h1 h2 h3 h4 h5 b1 b2 b3 b4 b5 c1 c2 c3 p1 p2 p3 p4 p5 e1 e2 e3 =
    p5 ∙ ap (λ (l : List ℕ). l ++ b5) p4 ∙ append_assoc h3 b4 b5
    ∙ ap (λ (l : List ℕ). l ++ (b4 ++ b5)) (p3 ∙ ap (λ (l : List ℕ). h2 ++ l) e3) ∙ append_assoc h2 c3 (b4 ++ b5)
    ∙ ap (λ (l : List ℕ). l ++ (c3 ++ (b4 ++ b5))) (p2 ∙ ap (λ (l : List ℕ). h1 ++ l) e2) ∙ append_assoc h1 c2 (c3 ++ (b4 ++ b5))
    ∙ ap (λ (l : List ℕ). l ++ (c2 ++ (c3 ++ (b4 ++ b5)))) (p1 ∙ ap (λ (l : List ℕ). old ++ l) e1) ∙ append_assoc old c1 (c2 ++ (c3 ++ (b4 ++ b5)))

-- what was put behind nothing is the frame
pub frame-made : (ap_bytes private start made : List ℕ) (count size : ℕ) → start ≡ [] → count ≡ 6 + length ap_bytes + length private → size ≡ length ap_bytes
    → made ≡ start ++ framed count size ap_bytes private
    → (made ≡ frame_bytes ap_bytes private) × IsFrame ap_bytes private made
frame-made ap_bytes private start made count size none is_count is_size is =
    let same : made ≡ frame_bytes ap_bytes private =
    is ∙ ap (λ (l : List ℕ). l ++ framed count size ap_bytes private) none
    ∙ ap (λ (n : ℕ). framed n size ap_bytes private) is_count ∙ ap (λ (n : ℕ). framed (6 + length ap_bytes + length private) n ap_bytes private) is_size in
    (same, subst (IsFrame ap_bytes private) (sym same) (frame-laid ap_bytes private))

-- How two octets in front of other fields are written and read.
use Rattle.std.proofs.Common.{◌≡◌, ℕ, ◌+◌, List, [], ◌∷◌, ◌++◌, length, Option, None, refl, sym, ap, subst, ◌∙◌, arith, length-append}
use Rattle.asn1_der.specs.Tree.{Trees, ders, AreWhole}
use Rattle.asn1_der.proofs.Spelling.{tails}
use Rattle.asn1_der.specs.declared.error.Asn1DerError.{Asn1DerError}
use Rattle.asn1_der.specs.declared.error.Unsupported.{Unsupported}
use Rattle.asn1_codec.specs.Pairs.{pair_before}
use Rattle.asn1_codec.specs.Reading.{Reading, Took, TookFields, AreFields, IsOctet}
use Rattle.asn1_codec.specs.Writing.{Writing, WroteValue, NotWroteFields}
use Rattle.asn1_codec.proofs.Chain.{Cuts, took-join}
use Rattle.asn1_codec.proofs.Writes.{wrote-as, wrote-join, wrote-same}

pair_ders : (octets : List ℕ) (trees : Trees) → length octets ≡ 2 → ders (pair_before octets trees) ≡ octets ++ ders trees
pair_ders [] trees two = absurd (omega (arith, two))
pair_ders (a ∷ []) trees two = absurd (omega (arith, two))
pair_ders (a ∷ (b ∷ [])) trees two = refl
pair_ders (a ∷ (b ∷ (c ∷ octets))) trees two = absurd (omega (arith, two))

-- what two octets and fields spell
pair_split : (octets : List ℕ) (trees : Trees) → AreWhole (pair_before octets trees)
    → (a b : ℕ) × (octets ≡ a ∷ (b ∷ [])) × AreWhole trees × (ders (pair_before octets trees) ≡ a ∷ (b ∷ ders trees))
pair_split [] trees whole = absurd whole.0
pair_split (a ∷ []) trees whole = absurd whole.0
pair_split (a ∷ (b ∷ [])) trees whole = (a, b, refl, whole, refl)
pair_split (a ∷ (b ∷ (c ∷ octets))) trees whole = absurd whole.0

-- the trees of two octets and of fields
abbrev pub pair_trees : {B : Type 0} → (B → Trees) → List ℕ × B → Trees
pair_trees trees f = pair_before f.0 (trees f.1)

-- the two octets and the bytes after them are written as they are
pair_bytes : (octets same : List ℕ) (trees : Trees) → same ≡ octets → length same ≡ 2 → same ++ ders trees ≡ ders (pair_before octets trees)
pair_bytes octets same trees is two = sym (pair_ders same trees two) ∙ ap (λ l. ders (pair_before l trees)) is

pub pair-unwritten : (r : Option Unsupported) (octets same : List ℕ) (trees : Trees) (old new : Writing) (e : Asn1DerError) → same ≡ octets → length same ≡ 2
    → NotWroteFields r (same ++ ders trees) old new e → NotWroteFields r (ders (pair_before octets trees)) old new e
pair-unwritten r octets same trees old new e is two failed = subst (λ b. NotWroteFields r b old new e) (pair_bytes octets same trees is two) failed

pub pair-wrote : (octets same : List ℕ) (trees : Trees) (old mid low new : Writing) (first rest sum : ℕ) (r : Option Unsupported) → same ≡ octets
    → length same ≡ 2 → WroteValue None same old mid first → WroteValue r (ders trees) mid low rest → sum ≡ first + rest → new ≡ low
    → WroteValue r (ders (pair_before octets trees)) old new sum
pair-wrote octets same trees old mid low new first rest sum r is two head tail sum_is after =
    let bytes = pair_bytes octets same trees is two in
    let joined = wrote-join same (ders trees) old mid low head.0 tail.0 in (
      wrote-as (same ++ ders trees) (ders (pair_before octets trees)) old new bytes (wrote-same (same ++ ders trees) old low new joined after),
      omega (arith, sum_is, head.1, tail.1, length-append same (ders trees), ap length bytes),
      tail.2,
    )

-- what is expected after the octets that were taken
pub pair_cut : {B : Type 0} (trees : B → Trees) (a b limit room : ℕ) → limit ≡ 2 + room
    → Cuts (AreFields (pair_trees trees) limit) (AreFields trees room) (a ∷ (b ∷ [])) limit
pair_cut trees a b limit room is_room bytes rest behind p e within =
    let (c, d, octets_are, whole, spelled) = pair_split p.0.0 (trees p.0.1) p.1 in
    let tail = ders (trees p.0.1) in
    let text : bytes ≡ c ∷ (d ∷ tail) = p.2 ∙ spelled in
    let joined : c ∷ (d ∷ (tail ++ rest)) ≡ a ∷ (b ∷ behind) = ap (λ l. l ++ rest) (sym text) ∙ e in
    let later : d ∷ (tail ++ rest) ≡ b ∷ behind = tails c a (d ∷ (tail ++ rest)) (b ∷ behind) joined in
    let size : length bytes ≡ 2 + length tail = omega (arith, ap length text) in
    (tail, rest, (p.0.1, whole, refl, omega (arith, size, p.3, is_room)), sym (tails d b (tail ++ rest) behind later), omega (arith, size))

-- a front of what is expected
pub pair_octet : {B : Type 0} (trees : B → Trees) (limit : ℕ) (bytes : List ℕ) → AreFields (pair_trees trees) limit bytes
    → (c d : List ℕ) × IsOctet c × (bytes ≡ c ++ d)
pair_octet trees limit bytes p =
    let (c, d, octets_are, whole, spelled) = pair_split p.0.0 (trees p.0.1) p.1 in
    (c ∷ [], d ∷ ders (trees p.0.1), refl, p.2 ∙ spelled)

-- what is expected after the first octet
pub pair_second : {B : Type 0} (trees : B → Trees) (a limit : ℕ) → Cuts (AreFields (pair_trees trees) limit) IsOctet (a ∷ []) limit
pair_second trees a limit bytes rest behind p e within =
    let (c, d, octets_are, whole, spelled) = pair_split p.0.0 (trees p.0.1) p.1 in
    let tail = ders (trees p.0.1) in
    let text : bytes ≡ c ∷ (d ∷ tail) = p.2 ∙ spelled in
    let joined : c ∷ (d ∷ (tail ++ rest)) ≡ a ∷ behind = ap (λ l. l ++ rest) (sym text) ∙ e in
    let size : length bytes ≡ 2 + length tail = omega (arith, ap length text) in
    (d ∷ [], tail ++ rest, refl, sym (tails c a (d ∷ (tail ++ rest)) behind joined), omega (arith, size))

pub pair_took : {B : Type 0} (trees : B → Trees) (a b : ℕ) (fields : B) (old mid low new : Reading) → Took (a ∷ []) old mid → Took (b ∷ []) mid low
    → TookFields trees fields low new → TookFields (pair_trees trees) (a ∷ (b ∷ []), fields) old new
pair_took trees a b fields old mid low new first second rest =
    let octets = took-join (a ∷ []) (b ∷ []) old mid low first second in
    (rest.0, took-join (a ∷ (b ∷ [])) (ders (trees fields)) old low new octets rest.1, rest.2)

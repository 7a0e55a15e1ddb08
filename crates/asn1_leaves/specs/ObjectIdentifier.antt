-- Object identifiers: lists of arcs (X.660, section 6), their dotted text, and their content octets (X.690,
-- section 8.19). Only those are held of which each number that is written is below 2 ^ 64.
use Rattle.std.specs.Prelude.{◌≡◌, ℕ, ◌+◌, ◌-◌, ◌*◌, ◌/◌, ◌%◌, ◌^◌, ◌<◌, Bool, false, ◌&&◌, ◌==◌, nat_lt, if◌then◌else◌, List, [], ◌∷◌, ◌++◌, map, length, min, codes, Option, IsTrue, refl}
use Rattle.std.specs.List.{list_all, flat_map, join_with_byte}
use Rattle.std.specs.Option.{option_to_list}
use Rattle.std.specs.Fmt.{decimal, digits}
use Rattle.std.specs.Int.Digits.{digits_of}

-- the first two arcs are written as one number
abbrev pub joined : ℕ → ℕ → ℕ
joined first second = 40 * first + second

-- the first arc is 0, 1 or 2; below the first two the second is at most 39 (X.660, section A.2.2)
abbrev pub may_begin : ℕ → ℕ → Bool
may_begin first second = if nat_lt first 2 then nat_lt second 40 else first == 2

-- a number that is held in 64 bits
abbrev pub is_u64 : ℕ → Bool
is_u64 n = nat_lt n (2 ^ 64)

-- there are two arcs at least, the first two may begin, and the numbers that are written are below 2 ^ 64
abbrev pub is_object_identifier : List ℕ → Bool
is_object_identifier (first ∷ second ∷ arcs) =
    may_begin first second && (is_u64 (joined first second) && list_all is_u64 arcs)
is_object_identifier (first ∷ []) = false
is_object_identifier [] = false

-- the arcs are those of an object identifier that is held (X.660, section 6; X.690, section 8.19)
abbrev pub IsObjectIdentifier : List ℕ → Type 0
IsObjectIdentifier arcs = IsTrue (is_object_identifier arcs)

-- a number's digits to the base 128 in the fewest octets, each octet but the last with bit 8 set (8.19.2)
unfoldable pub subidentifier : ℕ → List ℕ
subidentifier n = map (λ digit. 128 + digit) (digits_of 128 (n / 128)) ++ n % 128 ∷ []

-- the content octets: the first two arcs as one number, and then each further arc (8.19.3 and 8.19.4)
unfoldable pub oid_content : List ℕ → List ℕ
oid_content (first ∷ second ∷ arcs) = subidentifier (joined first second) ++ flat_map subidentifier arcs
oid_content (first ∷ []) = []
oid_content [] = []

-- the octets are numbers below 2 ^ 64, one after another
abbrev pub AreNumbers : List ℕ → Type 0
AreNumbers octets = (numbers : List ℕ) × IsTrue (list_all is_u64 numbers) × (flat_map subidentifier numbers ≡ octets)

-- the arcs in decimal, a full stop between each two
unfoldable pub dotted_text : List ℕ → List ℕ
dotted_text arcs = join_with_byte 46 (map decimal arcs)

-- a text is that of these arcs, of which there is one at least
abbrev pub IsDotted : List ℕ → List ℕ → Type 0
IsDotted arcs text = (0 < length arcs) × IsTrue (list_all is_u64 arcs) × (dotted_text arcs ≡ text)

-- the numbers that octets write, of which the first has these digits already
abbrev pub numbers_after : ℕ → List ℕ → List ℕ
numbers_after digits [] = []
numbers_after digits (octet ∷ octets) =
    if nat_lt octet 128 then (digits * 128 + octet) ∷ numbers_after 0 octets
    else numbers_after (digits * 128 + (octet - 128)) octets

-- the numbers with the first one parted into two arcs
abbrev pub parted : List ℕ → List ℕ
parted [] = []
parted (number ∷ numbers) = min (number / 40) 2 ∷ (number - 40 * min (number / 40) 2) ∷ numbers

-- the arcs that content octets write
unfoldable pub oid_arcs : List ℕ → List ℕ
oid_arcs octets = parted (numbers_after 0 octets)

-- the octets are the content of an object identifier
abbrev pub IsContent : List ℕ → Type 0
IsContent octets = IsObjectIdentifier (oid_arcs octets) × (oid_content (oid_arcs octets) ≡ octets)

-- the arcs that are left: some of the first two, and the numbers that are left
abbrev pub arcs_left : Option ℕ → Option ℕ → List ℕ → List ℕ
arcs_left first second octets = option_to_list first ++ (option_to_list second ++ numbers_after 0 octets)

-- the example of X.690, section 8.19.5: joint-iso-itu-t, 100, 3
pub oid_content-2-100-3 : oid_content (2 ∷ 100 ∷ 3 ∷ []) ≡ 0x81 ∷ 0x34 ∷ 0x03 ∷ []
unfolding oid_content subidentifier
oid_content-2-100-3 = refl

-- rsaEncryption (RFC 8017, appendix C)
pub oid_content-rsa : oid_content (1 ∷ 2 ∷ 840 ∷ 113549 ∷ 1 ∷ 1 ∷ 1 ∷ []) ≡ 0x2A ∷ 0x86 ∷ 0x48 ∷ 0x86 ∷ 0xF7 ∷ 0x0D ∷ 0x01 ∷ 0x01 ∷ 0x01 ∷ []
unfolding oid_content subidentifier
oid_content-rsa = refl

pub oid_arcs-rsa : oid_arcs (0x2A ∷ 0x86 ∷ 0x48 ∷ 0x86 ∷ 0xF7 ∷ 0x0D ∷ 0x01 ∷ 0x01 ∷ 0x01 ∷ []) ≡ 1 ∷ 2 ∷ 840 ∷ 113549 ∷ 1 ∷ 1 ∷ 1 ∷ []
unfolding oid_arcs
oid_arcs-rsa = refl

pub dotted_text-rsa : dotted_text (1 ∷ 2 ∷ 840 ∷ 113549 ∷ 1 ∷ 1 ∷ 1 ∷ []) ≡ codes "1.2.840.113549.1.1.1"
unfolding dotted_text digits
dotted_text-rsa = refl

-- The octets of a key record (MIT's file keytab format, version 0x0502, "Key entry format").
use Rattle.std.specs.Prelude.{◌≡◌, ℕ, ◌+◌, ◌<◌, ◌^◌, true, List, [], ◌∷◌, ◌++◌, length, nat_lt, nat_eq, if◌then◌else◌}
use Rattle.asn1_leaves.specs.CharSets.{is_general_string}
use Rattle.byte_streams.specs.Numbers.{be16}
use Rattle.krb_file_formats.specs.Numbers.{be32, be32_at}

-- A principal with one of its keys.
pub record Entry : Type 0 where
  pub realm : List ℕ
  pub components : List (List ℕ)
  pub name_type : ℕ
  pub timestamp : ℕ
  pub kvno : ℕ
  pub etype : ℕ
  pub key : List ℕ

-- octets after their length of 16 bits, and then more
abbrev pub counted : List ℕ → List ℕ → List ℕ
counted octets more = be16 (length octets) ++ (octets ++ more)

-- each text behind its length, and then more
abbrev pub texts_bytes : List (List ℕ) → List ℕ → List ℕ
texts_bytes [] more = more
texts_bytes (t ∷ ts) more = counted t (texts_bytes ts more)

-- how many octets the texts take, each with its length
abbrev pub texts_size : List (List ℕ) → ℕ
texts_size [] = 0
texts_size (t ∷ ts) = 2 + length t + texts_size ts

-- The principal is the count of components in 16 bits, the realm and the components.
abbrev pub principal_bytes : List ℕ → List (List ℕ) → List ℕ → List ℕ
principal_bytes realm components more = be16 (length components) ++ counted realm (texts_bytes components more)

abbrev pub name_bytes : Entry → List ℕ → List ℕ
name_bytes e more = principal_bytes e.realm e.components more

-- The name type and the timestamp of 32 bits, a kvno of 8 bits, and the etype of 16 bits.
abbrev pub fixed_bytes : Entry → ℕ → List ℕ → List ℕ
fixed_bytes e low more = be32 e.name_type ++ (be32 e.timestamp ++ (low ∷ (be16 e.etype ++ more)))

-- A key record is the principal, the name type, the timestamp, a kvno of 8 bits, the etype, the key, and what is left in it.
abbrev pub record_body : Entry → ℕ → List ℕ → List ℕ
record_body e low left = name_bytes e (fixed_bytes e low (counted e.key left))

-- The kvno of 32 bits is in the first four octets that are left. It counts if they are there and it isn't 0; else the kvno of 8 bits
-- does (MIT's file keytab format, "Key entry format"). Octets after it count for nothing. Test: `kvno of 8 and of 32 bits` of `rows.txt`.
abbrev pub kvno_of : ℕ → List ℕ → ℕ
kvno_of low left = if nat_lt (length left) 4 then low else if nat_eq (be32_at 0 left) 0 then low else be32_at 0 left

-- A realm or a component fits its length of 16 bits, and its characters are below 128 (RFC 4120, section 5.2.1).
pub record FitsText (t : List ℕ) : Type 0 where
  pub size : length t < 2 ^ 16
  pub characters : is_general_string t ≡ true

-- Each of the texts fits.
abbrev pub TextsFit : List (List ℕ) → Type 0
TextsFit [] = Unit {0}
TextsFit (t ∷ ts) = FitsText t × TextsFit ts

-- Each number and each length is one that its field holds, but the kvno.
pub record Fits (e : Entry) : Type 0 where
  pub count : length e.components < 2 ^ 16
  pub realm : FitsText e.realm
  pub components : TextsFit e.components
  pub name_type : e.name_type < 2 ^ 32
  pub timestamp : e.timestamp < 2 ^ 32
  pub etype : e.etype < 2 ^ 16
  pub key : length e.key < 2 ^ 16

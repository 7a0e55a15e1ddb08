-- Formats: how values are laid out in octets, and how they are read. Formats are made of smaller ones.
use Rattle.std.specs.Prelude.{◌≡◌, ℕ, zero, suc, ◌+◌, ◌-◌, ◌<◌, ◌^◌, true, List, [], ◌∷◌, ◌++◌, length, take, drop, get_or, Result, Ok, Err, MatchResult, nat_lt, if◌then◌else◌}
use Rattle.asn1_leaves.specs.CharSets.{is_general_string}
use Rattle.byte_streams.specs.Numbers.{be16, be16_at}
use Rattle.krb_file_formats.specs.Numbers.{be32, be32_at}
use Rattle.krb_file_formats.specs.Reading.{GivesOr, and_then, followed}
use Rattle.krb_file_formats.specs.Writing.{IsRefusal, Puts}
use Rattle.krb_file_formats.specs.declared.credential_caches.fault.CacheFault.{CacheFault}
use Rattle.krb_file_formats.specs.declared.credential_caches.fault.CacheFault.TheVariants.{PastEnd, Character}
use Rattle.krb_file_formats.specs.declared.credential_caches.fault.CacheFault.TheVariants as fault
use Rattle.krb_file_formats.specs.declared.credential_caches.fault.CacheWriteFault.{CacheWriteFault}
use Rattle.krb_file_formats.specs.declared.credential_caches.fault.CacheWriteFault.TheVariants as write

-- The octets of a value in front of more, the values that fit, and what is read at a place: a value and the place behind it, or the
-- first fault.
pub record Format (A : Type 0) : Type 1 where
  pub bytes : A → List ℕ → List ℕ
  pub Fits : A → Type 0
  pub read : ℕ → List ℕ → Result (A × ℕ) CacheFault

-- a number of so many octets
abbrev pub number : ℕ → (ℕ → List ℕ) → (ℕ → List ℕ → ℕ) → Format ℕ
number size octets at = record {
  bytes = λ n more. octets n ++ more;
  Fits = λ n. n < 256 ^ size;
  read = λ place whole. if nat_lt (length whole - place) size then Err (PastEnd place) else Ok (at place whole, place + size);
}

-- a number of 8 bits
abbrev pub number8 : Format ℕ
number8 = number 1 (λ n. n ∷ []) (λ place whole. get_or whole place 0)

-- a number of 16 bits, its highest octet first
abbrev pub number16 : Format ℕ
number16 = number 2 be16 be16_at

-- a number of 32 bits, its highest octet first
abbrev pub number32 : Format ℕ
number32 = number 4 be32 be32_at

-- so many octets
abbrev pub exactly : ℕ → Format (List ℕ)
exactly n = record {
  bytes = λ t more. t ++ more;
  Fits = λ t. length t ≡ n;
  read = λ place whole. if nat_lt (length whole - place) n then Err (PastEnd place) else Ok (take n (drop place whole), place + n);
}

-- one value, and then another
abbrev pub both : {A B : Type 0} → Format A → Format B → Format (A × B)
both F G = record {
  bytes = λ v more. F.bytes v.0 (G.bytes v.1 more);
  Fits = λ v. F.Fits v.0 × G.Fits v.1;
  read = λ place whole. and_then (F.read place whole) (λ a. and_then (G.read a.1 whole) (λ b. Ok ((a.0, b.0), b.1)));
}

-- what is made of a value, and the value that it is made of
abbrev pub made : {A B : Type 0} → (A → B) → (B → A) → Format A → Format B
made to from F = record {
  bytes = λ b more. F.bytes (from b) more;
  Fits = λ b. F.Fits (from b);
  read = λ place whole. and_then (F.read place whole) (λ a. Ok (to a.0, a.1));
}

-- how many there are, and then so many
abbrev pub counted : {A : Type 0} → Format ℕ → (A → ℕ) → (ℕ → Format A) → Format A
counted N count F = record {
  bytes = λ a more. N.bytes (count a) ((F (count a)).bytes a more);
  Fits = λ a. N.Fits (count a) × (F (count a)).Fits a;
  read = λ place whole. and_then (N.read place whole) (λ n. (F n.0).read n.1 whole);
}

-- octets after their length of 32 bits
abbrev pub data32 : Format (List ℕ)
data32 = counted number32 length exactly

-- A realm and a component have characters below 128 alone (RFC 4120, section 5.2.1), behind their length of 32 bits.
abbrev pub text : Format (List ℕ)
text = record {
  bytes = data32.bytes;
  Fits = λ t. data32.Fits t × (is_general_string t ≡ true);
  read = λ place whole. and_then (data32.read place whole) (λ t. if is_general_string t.0 then Ok t else Err (Character place));
}

-- values behind one another
abbrev pub list_bytes : {A : Type 0} → Format A → List A → List ℕ → List ℕ
list_bytes F [] more = more
list_bytes F (x ∷ xs) more = F.bytes x (list_bytes F xs more)

-- each of the values fits the format
abbrev pub AllFit : {A : Type 0} → Format A → List A → Type 0
AllFit F [] = Unit {0}
AllFit F (x ∷ xs) = F.Fits x × AllFit F xs

-- these values in front of those
abbrev pub in_front : {A : Type 0} → List A → Result (List A × ℕ) CacheFault → Result (List A × ℕ) CacheFault
in_front xs r = and_then r (λ found. Ok (xs ++ found.0, found.1))

-- so many values from a place on
abbrev pub list_at : {A : Type 0} → Format A → ℕ → ℕ → List ℕ → Result (List A × ℕ) CacheFault
list_at F zero place whole = Ok ([], place)
list_at F (suc n) place whole = and_then (F.read place whole) (λ a. in_front (a.0 ∷ []) (list_at F n a.1 whole))

-- so many values
abbrev pub repeated : {A : Type 0} → Format A → ℕ → Format (List A)
repeated F n = record {
  bytes = list_bytes F;
  Fits = λ xs. (length xs ≡ n) × AllFit F xs;
  read = list_at F n;
}

-- values behind their count of 32 bits
abbrev pub listed : {A : Type 0} → Format A → Format (List A)
listed F = counted number32 length (repeated F)

-- values from a place up to the end, at most so many
abbrev pub all_at : {A : Type 0} → Format A → ℕ → ℕ → List ℕ → Result (List A) CacheFault
all_at F zero place whole = Ok []
all_at F (suc n) place whole =
    if nat_lt place (length whole) then and_then (F.read place whole) (λ a. followed (a.0 ∷ []) (all_at F n a.1 whole)) else Ok []

-- Each value takes octets, so there are at most as many.
abbrev pub all_from : {A : Type 0} → Format A → ℕ → List ℕ → Result (List A) CacheFault
all_from F place whole = all_at F (length whole) place whole

-- values that are so many octets
abbrev pub within : {A : Type 0} → Format A → ℕ → Format (List A)
within F n = record {
  bytes = λ xs more. list_bytes F xs [] ++ more;
  Fits = λ xs. (length (list_bytes F xs []) ≡ n) × AllFit F xs;
  read = λ place whole.
      if nat_lt (length whole - place) n then Err (PastEnd place)
      else and_then (all_from F place (take (place + n) whole)) (λ xs. Ok (xs, place + n));
}

-- the call returns this value or fault, or memory ran out
abbrev pub Gives : {A B : Type 0} → (A → B) → Result A CacheFault → Result B CacheFault → Type 0
Gives = GivesOr fault.Memory

-- memory ran out, or what is to be written is too long for the format
abbrev pub IsWriteRefusal : Type 0 → CacheWriteFault → Type 0
IsWriteRefusal = IsRefusal write.Memory write.TooLong

-- the octets of the value, which fits, were put behind the old ones; or it was refused
abbrev pub Writes : {A : Type 0} → Format A → A → Result (Unit {0}) CacheWriteFault → List ℕ → List ℕ → Type 0
Writes F a result old new = MatchResult result (λ _. Puts (F.bytes a) old new × F.Fits a) (IsWriteRefusal (F.Fits a))

-- What setting a use of a key changes (RFC 5280, section 4.2.1.3).
use Rattle.std.specs.Prelude.{◌≡◌, ℕ, ◌+◌, max, Bool, ◌==◌, if◌then◌else◌}
use Rattle.picky_asn1.specs.BitString.{Bits, bit_count, bit_of}
use Rattle.x509_certificates.specs.declared.key_usage.KeyUsage.{KeyUsage}

-- the wider string has `count` bits: these bits, and zeros after them
abbrev pub IsWidened : Bits → ℕ → Bits → Type 0
IsWidened bits count wider = (bit_count wider ≡ count) × ((k : ℕ) → bit_of wider k ≡ bit_of bits k)

-- the use has the value, and each other the one that it had; where its bit was missing it is the last
abbrev pub IsSet : ℕ → Bool → KeyUsage → KeyUsage → Type 0
IsSet number value old new =
    (bit_count new.0 ≡ max (bit_count old.0) (number + 1)) × ((k : ℕ) → bit_of new.0 k ≡ (if k == number then value else bit_of old.0 k))

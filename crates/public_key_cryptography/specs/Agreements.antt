-- Diffie-Hellman modulo a prime (RFC 2631), in groups whose generator is 2.
use Rattle.std.specs.Prelude.{ℕ, ◌+◌, ◌^◌, ◌%◌, Bool, ◌&&◌, nat_lt, nat_le, List, length, Option, Some, None, Result, Ok, Err, if◌then◌else◌}
use Rattle.std.specs.Str.{bytes_eq}
use Rattle.modular_arithmetic.specs.Naturals.{i2osp, os2ip}
use Rattle.public_key_cryptography.specs.GroupPrimes.{octets_in, second_oakley_group, modp_group_2048, modp_group_4096}
use Rattle.public_key_cryptography.specs.declared.group.Group.{Group}
use Rattle.public_key_cryptography.specs.declared.group.Group.TheVariants.{Modp1024, Modp2048, Modp4096}
use Rattle.public_key_cryptography.specs.declared.group.GroupRefusal.{GroupRefusal}
use Rattle.public_key_cryptography.specs.declared.group.GroupRefusal.TheVariants.{GroupTooWeak, UnknownGroup}
use Rattle.public_key_cryptography.specs.declared.group.WeakGroup.{WeakGroup}
use Rattle.public_key_cryptography.specs.declared.group.WeakGroup.TheVariants.{Refused, Taken}

-- a group's prime as octets
abbrev pub octets_of : Group → List ℕ
octets_of Modp1024 = octets_in second_oakley_group
octets_of Modp2048 = octets_in modp_group_2048
octets_of Modp4096 = octets_in modp_group_4096

-- how many octets the prime has
abbrev pub size_of : Group → ℕ
size_of Modp1024 = 128
size_of Modp2048 = 256
size_of Modp4096 = 512

-- the 1024-bit group, unless it is refused
abbrev pub weak_group : WeakGroup → Result Group GroupRefusal
weak_group Refused = Err GroupTooWeak
weak_group Taken = Ok Modp1024

-- the group of a prime
unfoldable pub group_of : List ℕ → WeakGroup → Result Group GroupRefusal
group_of octets weak =
    if bytes_eq octets (octets_of Modp2048) then Ok Modp2048
    else if bytes_eq octets (octets_of Modp4096) then Ok Modp4096
    else if bytes_eq octets (octets_of Modp1024) then weak_group weak
    else Err UnknownGroup

-- a group's prime
unfoldable pub prime_of : Group → ℕ
prime_of group = os2ip (octets_of group)

-- 2 to the secret's power, in as many octets as the prime has (RFC 2631, section 2.1.1)
abbrev pub public_of : Group → List ℕ → List ℕ
public_of group secret = i2osp (size_of group) (2 ^ os2ip secret % prime_of group)

-- the value is one of 2 to the prime less 2, in no more octets than the prime has (RFC 7919, section 5.1)
abbrev pub in_range : Group → List ℕ → Bool
in_range group value = nat_le (length value) (size_of group) && (nat_lt 1 (os2ip value) && nat_lt (os2ip value + 1) (prime_of group))

-- the peer's value to the secret's power, in as many octets as the prime has (RFC 2631, section 2.1.1)
abbrev pub shared_of : Group → List ℕ → List ℕ → Option (List ℕ)
shared_of group value secret =
    if in_range group value then Some (i2osp (size_of group) (os2ip value ^ os2ip secret % prime_of group)) else None

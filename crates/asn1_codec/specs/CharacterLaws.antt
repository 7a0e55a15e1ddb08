-- A character's octets are those of no other.
use Rattle.std.proofs.Common.{◌≡◌, ℕ, [], ◌++◌, ap}
use Rattle.std.proofs.lemmas.Str.{encode_same}
use Rattle.asn1_codec.specs.Characters.{character_content}

pub character_content-injective : (v w : ℕ) → character_content v ≡ character_content w → v ≡ w
character_content-injective v w e = (encode_same v w [] [] (ap (λ octets. octets ++ []) e)).0

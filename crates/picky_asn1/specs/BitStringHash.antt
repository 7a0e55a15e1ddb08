-- What the hash of a bit string is made of.
use Rattle.std.specs.Prelude.{◌++◌}
use Rattle.std.specs.Hash as fed
use Rattle.std.specs.Hash.{HashWrites}
use Rattle.picky_asn1.specs.BitString.{Bits}

-- the number of unused bits, and then the octets
abbrev pub bits_hash : Bits → HashWrites
bits_hash bits = fed.u8 bits.unused ++ fed.slice fed.u8 bits.octets

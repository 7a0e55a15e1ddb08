-- What an error prints of an algorithm that isn't supported: a hash's name, or an identifier in dotted text.
use Rattle.std.specs.Prelude.{ℕ, List, codes}
use Rattle.asn1_leaves.specs.ObjectIdentifier.{dotted_text}
use Rattle.x509_algorithms.specs.declared.sha_variant.ShaVariant.{ShaVariant}
use Rattle.x509_algorithms.specs.declared.sha_variant.ShaVariant.TheVariants as hash
use Rattle.x509_algorithms.specs.declared.unsupported.Algorithm.{Algorithm}
use Rattle.x509_algorithms.specs.declared.unsupported.Algorithm.TheVariants.{Hash, Identifier}

-- the name of a hash function, as an error displays it
abbrev pub hash_name : ShaVariant → List ℕ
hash_name hash.MD5 = codes "MD5"
hash_name hash.SHA1 = codes "SHA1"
hash_name hash.SHA2_224 = codes "SHA2_224"
hash_name hash.SHA2_256 = codes "SHA2_256"
hash_name hash.SHA2_384 = codes "SHA2_384"
hash_name hash.SHA2_512 = codes "SHA2_512"
hash_name hash.SHA2_512_224 = codes "SHA2_512_224"
hash_name hash.SHA2_512_256 = codes "SHA2_512_256"
hash_name hash.SHA3_224 = codes "SHA3_224"
hash_name hash.SHA3_256 = codes "SHA3_256"
hash_name hash.SHA3_384 = codes "SHA3_384"
hash_name hash.SHA3_512 = codes "SHA3_512"
hash_name hash.SHAKE128 = codes "SHAKE128"
hash_name hash.SHAKE256 = codes "SHAKE256"

abbrev pub algorithm_text : Algorithm → List ℕ
algorithm_text (Hash hash) = hash_name hash
algorithm_text (Identifier oid) = dotted_text oid.0

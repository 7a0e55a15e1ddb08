-- The key derivation function that a KDC chooses (RFC 8636, section 6).
use Rattle.std.specs.Prelude.{List, [], ◌∷◌, Option, None, Some}
use Rattle.pkinit_messages.specs.Kdfs.{kdf_named}
use Rattle.pkinit_messages.specs.declared.agility.kdf.Kdf.{Kdf}
use Rattle.pkinit_messages.specs.declared.agility.kdf_algorithm_id.KdfAlgorithmId.{KdfAlgorithmId}

abbrev pub or_else : Option Kdf → Option Kdf → Option Kdf
or_else None other = other
or_else (Some kdf) other = Some kdf

-- The KDC chooses one of the client's functions (RFC 8636, section 6): the first in its list that it knows.
-- Test: `KDFs 3, 2`, `KDFs 4 then 2`.
-- It chooses none where it knows none, or none is listed: what follows is for the caller to judge (RFC 8636, section 6).
-- Test: `KDF 4 alone`, `no KDF listed`.
abbrev pub first_known : List KdfAlgorithmId → Option Kdf
first_known [] = None
first_known (kdf ∷ kdfs) = or_else (kdf_named kdf.kdf_id.0.0) (first_known kdfs)

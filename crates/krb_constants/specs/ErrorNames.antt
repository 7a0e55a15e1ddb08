-- The names of error codes (RFC 4120, section 7.5.9; RFC 4556, section 3.1.3; draft-ietf-kitten-iakerb, section 3).
use Rattle.std.specs.Prelude.{ℕ, nat_eq, List, ◌++◌, codes, map, Option, None, Some, option_map}
use Rattle.std.specs.List.{find}
use Rattle.std.specs.Fmt.{decimal}
use Rattle.krb_constants.specs.declared.error_names.TheConstants.{ERROR_NAMES}

-- the codes, each beside its name
abbrev pub error_names : List (ℕ × List ℕ)
error_names = map (λ row. (row.0, row.1.now)) ERROR_NAMES

-- the name beside a code, where it has one
abbrev pub name_in : List (ℕ × List ℕ) → ℕ → Option (List ℕ)
name_in rows code = option_map (λ row. row.1) (find (λ row. nat_eq row.0 code) rows)

-- The name of the constant that has this number as an error code (RFC 4120, section 7.5.9).
unfoldable pub error_name : ℕ → Option (List ℕ)
error_name = name_in error_names

-- a code as messages have it: `KDC_ERR_PREAUTH_FAILED (24)`, or the number alone
abbrev pub named_text : ℕ → Option (List ℕ) → List ℕ
named_text code None = decimal code
named_text code (Some name) = name ++ codes " (" ++ decimal code ++ codes ")"

abbrev pub error_text : ℕ → List ℕ
error_text code = named_text code (error_name code)

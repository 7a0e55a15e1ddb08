-- A value that may be missing.
use Rattle.std.specs.Prelude.{Option, None, Some}
use Rattle.asn1_der.specs.Tree.{Tree, absent}
use Rattle.asn1_der.specs.declared.error.Unsupported.{Unsupported}

-- what is missing is written as nothing
abbrev pub option_tree : {A : Type 0} → (A → Tree) → Option A → Tree
option_tree tree None = absent
option_tree tree (Some value) = tree value

-- it is refused by none
abbrev pub refusal_of_some : {A : Type 0} → (A → Option Unsupported) → Option A → Option Unsupported
refusal_of_some refuses None = None
refusal_of_some refuses (Some value) = refuses value

abbrev pub option_refusal : {A : Type 0} → Option (A → Option Unsupported) → Option (Option A → Option Unsupported)
option_refusal None = None
option_refusal (Some refuses) = Some (refusal_of_some refuses)

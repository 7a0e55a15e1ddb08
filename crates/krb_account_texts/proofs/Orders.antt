-- A loop over lines, of which each is judged after those before it.
use Rattle.std.proofs.Common.{◌≡◌, ℕ, ◌+◌, Bool, false, List, [], drop}
use Rattle.picky_asn1.specs.Bytes.{Bytes}
use Rattle.krb_account_texts.specs.Order.{in_order}
use Rattle.krb_account_texts.specs.declared.line.Line.{Line}

-- the first i lines are in order, and show whether there is a realm and the last account's name
abbrev pub IsInOrder : List Line → ℕ → Bool → List Bytes → Type 0
IsInOrder lines i has_realm last = in_order 1 false [] lines ≡ in_order (1 + i) has_realm last (drop i lines)

-- How a hint is refused, and a client that is made by one.
use Rattle.std.specs.Prelude.{◌≡◌, ◌⊎◌, ℕ, Result, Err}
use Rattle.decision_tables.specs.Tables.{Table}
use Rattle.krb_client_exchanges.specs.declared.refusal.HintRefusal.{HintRefusal}
use Rattle.krb_client_exchanges.specs.declared.refusal.HintRefusal.TheVariants as hint_refusal
use Rattle.krb_client_exchanges.specs.declared.refusal.HintedClientRefusal.{HintedClientRefusal}
use Rattle.krb_client_exchanges.specs.declared.refusal.HintedClientRefusal.TheVariants as client_refusal

-- The number of a refusal of a hint.
abbrev pub hint_number : HintRefusal → ℕ
hint_number hint_refusal.Unreadable = 1
hint_number (hint_refusal.Refused code) = 2
hint_number hint_refusal.NoHint = 3
hint_number hint_refusal.NoSuite = 4
hint_number hint_refusal.OtherParameters = 5
hint_number hint_refusal.Memory = 6

-- The number of a refusal of a client.
abbrev pub client_number : HintedClientRefusal → ℕ
client_number client_refusal.BadName = 1
client_number client_refusal.NoKey = 2
client_number client_refusal.Memory = 3
client_number client_refusal.OtherSuite = 4
client_number client_refusal.OtherSalt = 5

-- Memory ran out, or the table gives the answer.
abbrev pub IsHinted : {T : Type 0} → Table (Result T HintRefusal) → Result T HintRefusal → Type 0
IsHinted table (Err hint_refusal.Memory) = Unit {0}
IsHinted table answer = table.gives answer

-- Memory ran out, or the answer is this one.
abbrev pub IsMemoryAside : {T : Type 0} → Result T HintedClientRefusal → Result T HintedClientRefusal → Type 0
IsMemoryAside answer expected = (answer ≡ Err client_refusal.Memory) ⊎ (answer ≡ expected)

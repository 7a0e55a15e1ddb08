-- How asking and taking are refused.
use Rattle.std.specs.Prelude.{◌≡◌, ◌⊎◌, ℕ, Result, Err}
use Rattle.decision_tables.specs.Tables.{Table}
use Rattle.krb_client.specs.declared.refusal.AskRefusal.{AskRefusal}
use Rattle.krb_client.specs.declared.refusal.AskRefusal.TheVariants as ask_refusal
use Rattle.krb_client.specs.declared.refusal.TakeRefusal.{TakeRefusal}
use Rattle.krb_client.specs.declared.refusal.TakeRefusal.TheVariants as take_refusal

-- the numbers of refusals
abbrev pub ask_number : AskRefusal → ℕ
ask_number ask_refusal.BadName = 1
ask_number ask_refusal.BadCertificate = 4
ask_number ask_refusal.NoKeyFunction = 2
ask_number ask_refusal.Memory = 3

-- The number of a refusal of a reply.
abbrev pub take_number : TakeRefusal → ℕ
take_number take_refusal.Unreadable = 1
take_number (take_refusal.Refused code) = 2
take_number take_refusal.NotTrusted = 5
take_number take_refusal.NotSealed = 3
take_number take_refusal.NotAsked = 4
take_number take_refusal.Memory = 6

-- memory ran out, or the answer is this one
abbrev pub IsMemoryAside : {T : Type 0} → Result T AskRefusal → Result T AskRefusal → Type 0
IsMemoryAside answer wanted = (answer ≡ Err ask_refusal.Memory) ⊎ (answer ≡ wanted)

-- memory ran out, or the table gives the answer
abbrev pub IsTaken : {T : Type 0} → Table (Result T TakeRefusal) → Result T TakeRefusal → Type 0
IsTaken table (Err take_refusal.Memory) = Unit {0}
IsTaken table answer = table.gives answer

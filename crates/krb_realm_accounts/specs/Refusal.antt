-- How commands to a realm are refused.
use Rattle.std.specs.Prelude.{◌≡◌, ◌⊎◌, ℕ, Result, Err}
use Rattle.krb_realm_accounts.specs.declared.refusal.RealmRefusal.{RealmRefusal}
use Rattle.krb_realm_accounts.specs.declared.refusal.RealmRefusal.TheVariants.{Exists, Unknown, BadName, BadKeyLength, KeptAccount, NumberSpent, BadSetting, Memory}

-- the numbers of refusals
abbrev pub refusal_number : RealmRefusal → ℕ
refusal_number Exists = 1
refusal_number Unknown = 2
refusal_number BadName = 3
refusal_number BadKeyLength = 4
refusal_number KeptAccount = 5
refusal_number NumberSpent = 6
refusal_number BadSetting = 7
refusal_number Memory = 8

-- memory ran out, or the answer is this one
abbrev pub IsMemoryAside : {T : Type 0} → Result T RealmRefusal → Result T RealmRefusal → Type 0
IsMemoryAside answer wanted = (answer ≡ Err Memory) ⊎ (answer ≡ wanted)

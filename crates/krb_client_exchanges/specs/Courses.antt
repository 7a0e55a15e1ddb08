-- How exchanges with a KDC go: which events there are, in their order, and what comes of them. Memory may run out wherever the client makes
-- or judges something.
use Rattle.std.specs.Prelude.{◌≡◌, ◌⊎◌, List, [], ◌∷◌, ◌++◌, Option, Result, Ok, Err}
use Rattle.decision_tables.specs.Tables.{Table}
use Rattle.picky_asn1.specs.Bytes.{Bytes}
use Rattle.krb_client.specs.declared.refusal.AskRefusal.{AskRefusal}
use Rattle.krb_client_exchanges.specs.Events.{Asked, Began, Event, grown}
use Rattle.krb_client_exchanges.specs.declared.fault.ExchangeFault.{ExchangeFault}
use Rattle.krb_client_exchanges.specs.declared.fault.ExchangeFault.TheVariants as fault
use Rattle.krb_client_exchanges.specs.declared.fault.LoginRefusal.{LoginRefusal}
use Rattle.krb_client_exchanges.specs.declared.fault.LoginRefusal.TheVariants as refusal
use Rattle.krb_client_exchanges.specs.declared.occasion.Occasion.{Occasion}

-- Of a value, where the KDC's own faults are of type F.
abbrev pub Course : Type 0 → Type 0 → Type 1
Course F A = List (Event F) → Result A (ExchangeFault F) → Type 0

-- The first course, and after it what its value decides. Its fault ends both.
infixl 10 ◌>>=◌
abbrev pub ◌>>=◌ : {F A B : Type 0} → Course F A → (A → Course F B) → Course F B
(first >>= rest) events outcome =
    ((front back : List (Event _)) × (value : _) × (events ≡ front ++ back) × first front (Ok value) × rest value back outcome)
    ⊎ ((fault : ExchangeFault _) × first events (Err fault) × (outcome ≡ Err fault))

-- The course has ended with this value.
abbrev pub ended : {F A : Type 0} → A → Course F A
ended value events outcome = (events ≡ []) × (outcome ≡ Ok value)

-- What the KDC's side gave, or its fault.
abbrev pub of_kdc : {F A : Type 0} → Result A F → Result A (ExchangeFault F)
of_kdc (Ok value) = Ok value
of_kdc (Err own) = Err (fault.Kdc own)

-- The client takes an occasion.
abbrev pub began : {F : Type 0} → Course F Occasion
began events outcome = (occasion : Result Occasion _) × (events ≡ Began occasion ∷ []) × (outcome ≡ of_kdc occasion)

-- The client sends a request, and has the reply.
abbrev pub sent : {F : Type 0} → Bytes → Course F Bytes
sent request events outcome = (reply : Result Bytes _) × (events ≡ Asked request reply ∷ []) × (outcome ≡ of_kdc reply)

-- Why there is no request: memory ran out, or the client refuses to ask.
abbrev pub IsUnmade : {F : Type 0} → (AskRefusal → Type 0) → ExchangeFault F → Type 0
IsUnmade refuses fault.Memory = Unit {0}
IsUnmade refuses (fault.Refused (refusal.NotAsked own)) = refuses own
IsUnmade refuses other = ⊥

-- The client makes the octets of a request.
abbrev pub made : {F : Type 0} → (Bytes → Type 0) → (AskRefusal → Type 0) → Course F Bytes
made asks refuses events (Ok request) = (events ≡ []) × asks request
made asks refuses events (Err own) = (events ≡ []) × IsUnmade refuses own

-- The client judges by a table, whose refusal is told as one of a login.
abbrev pub Judges : {F A E : Type 0} → (E → LoginRefusal) → Table (Result A E) → Result A (ExchangeFault F) → Type 0
Judges told table (Ok value) = table.gives (Ok value)
Judges {E = E} told table (Err (fault.Refused own)) = (error : E) × table.gives (Err error) × (own ≡ told error)
Judges told table (Err (fault.Kdc own)) = ⊥
Judges told table (Err fault.Memory) = Unit {0}

abbrev pub judged : {F A E : Type 0} → (E → LoginRefusal) → Table (Result A E) → Course F A
judged told table events outcome = (events ≡ []) × Judges told table outcome

-- The events that are known grew by those of a course with this outcome.
pub record Runs {F A : Type 0} (before after : Option (List (Event F))) (course : Course F A) (outcome : Result A (ExchangeFault F)) : Type 0 where
  pub events : List (Event F)
  pub grew : after ≡ grown before events
  pub goes : course events outcome

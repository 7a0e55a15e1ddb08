-- Courses that follow one another, as calls do.
use Rattle.std.proofs.Common.{◌≡◌, List, [], ◌++◌, Option, None, Some, Result, Ok, Err, refl, ap, sym, ◌∙◌, append_assoc, append-nil, inl, inr, subst}
use Rattle.std.specs.Result.{IsErrAnd}
use Rattle.decision_tables.specs.Tables.{Table}
use Rattle.picky_asn1.specs.Bytes.{Bytes}
use Rattle.krb_client.specs.declared.refusal.AskRefusal.{AskRefusal}
use Rattle.krb_client_exchanges.specs.Courses.{Course, Judges, Runs, ◌>>=◌, judged, made}
use Rattle.krb_client_exchanges.specs.Events.{Event, grown}
use Rattle.krb_client_exchanges.specs.declared.fault.ExchangeFault.{ExchangeFault}
use Rattle.krb_client_exchanges.specs.declared.fault.LoginRefusal.{LoginRefusal}

grown-twice : {F : Type 0} (before : Option (List (Event F))) (front back : List (Event F)) → grown (grown before front) back ≡ grown before (front ++ back)
grown-twice None front back = refl
grown-twice (Some all) front back = ap Some (append_assoc all front back)

grown-none : {F : Type 0} (before : Option (List (Event F))) → before ≡ grown before []
grown-none None = refl
grown-none (Some all) = ap Some (sym (append-nil all))

-- What follows after a value.
pub runs-then : {F A B : Type 0} {first : Course F A} (rest : A → Course F B) {before between after : Option (List (Event F))} {value : A} {outcome : Result B (ExchangeFault F)}
    → Runs before between first (Ok value) → Runs between after (rest value) outcome → Runs before after (first >>= rest) outcome
runs-then rest {before = before} {value = value} x y = record {
  events = x.events ++ y.events;
  grew = y.grew ∙ ap (λ all. grown all y.events) x.grew ∙ grown-twice before x.events y.events;
  goes = inl (x.events, y.events, value, refl, x.goes, y.goes);
}

-- A fault ends the course.
pub runs-fault : {F A B : Type 0} {first : Course F A} (rest : A → Course F B) {before after : Option (List (Event F))} {fault : ExchangeFault F}
    → Runs before after first (Err fault) → Runs before after (first >>= rest) (Err fault)
runs-fault rest {fault = fault} x = record { events = x.events; grew = x.grew; goes = inr (fault, x.goes, refl) }

-- What is judged has no event.
pub runs-judged : {F A E : Type 0} (told : E → LoginRefusal) (table : Table (Result A E)) (before : Option (List (Event F))) (outcome : Result A (ExchangeFault F))
    → Judges told table outcome → Runs before before (judged told table) outcome
runs-judged told table before outcome is = record { events = []; grew = grown-none before; goes = (refl, is) }

-- Nor has a request that is made.
pub runs-made : {F : Type 0} (asks : Bytes → Type 0) (refuses : AskRefusal → Type 0) (before : Option (List (Event F))) (octets : Bytes)
    → asks octets → Runs before before (made asks refuses) (Ok octets)
runs-made asks refuses before octets is = record { events = []; grew = grown-none before; goes = (refl, is) }

-- The same as `runs-then`, where what follows is known at an equal value.
pub runs-with : {F A B : Type 0} {first : Course F A} (rest : A → Course F B) {before between after : Option (List (Event F))} {value other : A} {outcome : Result B (ExchangeFault F)}
    → other ≡ value → Runs before between first (Ok value) → Runs between after (rest other) outcome → Runs before after (first >>= rest) outcome
runs-with {A = A} rest {between = between} {after = after} {outcome = outcome} same x y = runs-then rest x (subst (λ (own : A). Runs between after (rest own) outcome) same y)

-- A fault at the exit of a `?`.
pub runs-exit : {F A B : Type 0} {first : Course F A} (rest : A → Course F B) {before after : Option (List (Event F))} {fault : ExchangeFault F} (outcome : Result B (ExchangeFault F))
    → IsErrAnd outcome (λ own. own ≡ fault) → Runs before after first (Err fault) → Runs before after (first >>= rest) outcome
runs-exit rest (Ok value) is x = absurd is
runs-exit {F = F} {first = first} rest {before = before} {after = after} (Err own) is x = subst (λ (fault : ExchangeFault F). Runs before after (first >>= rest) (Err fault)) (sym is) (runs-fault rest x)

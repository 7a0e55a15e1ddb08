-- An exchange, by its occasion, what was made at it, and what was sent.
use Rattle.std.proofs.Common.{◌≡◌, ℕ, List, [], ◌∷◌, Option, Result, Ok, Err, Vec, refl, sym, subst, inl, inr}
use Rattle.std.specs.Global.{Global}
use Rattle.std.specs.Result.{IsErrAnd}
use Rattle.picky_asn1.specs.Bytes.{Bytes}
use Rattle.krb_client.specs.declared.refusal.AskRefusal.{AskRefusal}
use Rattle.krb_client.specs.declared.refusal.AskRefusal.TheVariants.{BadCertificate, BadName, Memory, NoKeyFunction}
use Rattle.krb_client_exchanges.specs.Courses.{IsUnmade, Runs, ◌>>=◌, began, ended, made, sent}
use Rattle.krb_client_exchanges.specs.Events.{Asked, Event, grown}
use Rattle.krb_client_exchanges.specs.RequestKinds.{IsMadeAt, RequestRecord, exchange, kept_exchange}
use Rattle.krb_client_exchanges.specs.Taking.{not_asked, octets_both, octets_last, posted, posted_kept}
use Rattle.krb_client_exchanges.specs.declared.fault.ExchangeFault.{ExchangeFault}
use Rattle.krb_client_exchanges.specs.declared.occasion.Occasion.{Occasion}
use Rattle.krb_client_exchanges.proofs.Running.{runs-fault, runs-made, runs-then}

-- the refusal of a request is told as one of the login
still_unmade : {A : Type 0} (F : Type 0) (request : RequestRecord A) (occasion : Occasion) (refusal : AskRefusal) → IsMadeAt request occasion (Err refusal) → IsUnmade {F = F} (request.refuses occasion) (not_asked refusal)
still_unmade F request occasion BadName is = is
still_unmade F request occasion BadCertificate is = is
still_unmade F request occasion NoKeyFunction is = is
still_unmade F request occasion Memory is = tt

-- what follows the occasion
after_occasion : {F A : Type 0} (request : RequestRecord A) (occasion : Occasion) (whole : Result (Bytes × A) AskRefusal) {before after : Option (List (Event F))} {outcome : Result (A × Bytes) (ExchangeFault F)}
    → IsMadeAt request occasion whole → Runs before after (posted whole) outcome
    → Runs before after (made (request.asks occasion) (request.refuses occasion) >>= (λ octets. sent octets >>= (λ reply. ended (request.remembers occasion, reply)))) outcome
after_occasion {A = A} request occasion (Ok whole) {before = before} {after = after} {outcome = outcome} is runs =
    let same : Runs before after (sent whole.0 >>= (λ reply. ended (request.remembers occasion, reply))) outcome =
    subst (λ (asked : A). Runs before after (sent whole.0 >>= (λ reply. ended (asked, reply))) outcome) is.1 runs in
    runs-then (λ octets. sent octets >>= (λ reply. ended (request.remembers occasion, reply)))
    (runs-made (request.asks occasion) (request.refuses occasion) before whole.0 is.0) same
after_occasion {F = F} request occasion (Err refusal) is runs = record {
  events = runs.events;
  grew = runs.grew;
  goes = inr (not_asked refusal, (runs.goes.0, still_unmade F request occasion refusal is), runs.goes.1);
}

pub exchanged : {F A : Type 0} (request : RequestRecord A) (occasion : Occasion) (whole : Result (Bytes × A) AskRefusal) {before between after : Option (List (Event F))} {outcome : Result (A × Bytes) (ExchangeFault F)}
    → Runs before between began (Ok occasion) → IsMadeAt request occasion whole → Runs between after (posted whole) outcome → Runs before after (exchange request) outcome
exchanged request occasion whole begins is runs =
    runs-then (λ at. made (request.asks at) (request.refuses at) >>= (λ octets. sent octets >>= (λ reply. ended (request.remembers at, reply))))
    begins (after_occasion request occasion whole is runs)

-- a request that was made, and the reply to it
pub sent_whole : {F A : Type 0} (octets : Bytes) (asked : A) (reply : Bytes) {before after : Option (List (Event F))} → after ≡ grown before (Asked octets (Ok reply) ∷ [])
    → Runs {F = F} {A = A × Bytes} before after (sent octets >>= (λ own. ended (asked, own))) (Ok (asked, reply))
sent_whole octets asked reply grew = record {
  events = Asked octets (Ok reply) ∷ [];
  grew = grew;
  goes = inl (Asked octets (Ok reply) ∷ [], [], reply, refl, (Ok reply, refl, refl), (refl, refl));
}

-- without an occasion there is no exchange
pub no_occasion : {F A : Type 0} (request : RequestRecord A) {before after : Option (List (Event F))} {fault : ExchangeFault F} (result : Result (A × Vec ℕ Global) (ExchangeFault F))
    → IsErrAnd result (λ own. own ≡ fault) → Runs before after began (Err fault) → Runs {F = F} {A = A × Bytes} before after (exchange request) (octets_last result)
no_occasion request (Ok whole) is begins = absurd is
no_occasion {F = F} {A = A} request {before = before} {after = after} (Err own) is begins =
    subst (λ (fault : ExchangeFault F). Runs {F = F} {A = A × Bytes} before after (exchange request) (Err fault)) (sym is)
    (runs-fault (λ at. made (request.asks at) (request.refuses at) >>= (λ octets. sent octets >>= (λ reply. ended (request.remembers at, reply)))) begins)

-- the same with the octets of the request
after_kept : {F A : Type 0} (request : RequestRecord A) (occasion : Occasion) (whole : Result (Bytes × A) AskRefusal) {before after : Option (List (Event F))}
    {outcome : Result (Bytes × (A × Bytes)) (ExchangeFault F)} → IsMadeAt request occasion whole → Runs before after (posted_kept whole) outcome
    → Runs before after (made (request.asks occasion) (request.refuses occasion) >>= (λ octets. sent octets >>= (λ reply. ended (octets, (request.remembers occasion, reply))))) outcome
after_kept {A = A} request occasion (Ok whole) {before = before} {after = after} {outcome = outcome} is runs =
    let same : Runs before after (sent whole.0 >>= (λ reply. ended (whole.0, (request.remembers occasion, reply)))) outcome =
    subst (λ (asked : A). Runs before after (sent whole.0 >>= (λ reply. ended (whole.0, (asked, reply)))) outcome) is.1 runs in
    runs-then (λ octets. sent octets >>= (λ reply. ended (octets, (request.remembers occasion, reply))))
    (runs-made (request.asks occasion) (request.refuses occasion) before whole.0 is.0) same
after_kept {F = F} request occasion (Err refusal) is runs = record {
  events = runs.events;
  grew = runs.grew;
  goes = inr (not_asked refusal, (runs.goes.0, still_unmade F request occasion refusal is), runs.goes.1);
}

pub exchanged_kept : {F A : Type 0} (request : RequestRecord A) (occasion : Occasion) (whole : Result (Bytes × A) AskRefusal) {before between after : Option (List (Event F))}
    {outcome : Result (Bytes × (A × Bytes)) (ExchangeFault F)}
    → Runs before between began (Ok occasion) → IsMadeAt request occasion whole → Runs between after (posted_kept whole) outcome → Runs before after (kept_exchange request) outcome
exchanged_kept request occasion whole begins is runs =
    runs-then (λ at. made (request.asks at) (request.refuses at) >>= (λ octets. sent octets >>= (λ reply. ended (octets, (request.remembers at, reply)))))
    begins (after_kept request occasion whole is runs)

pub sent_kept : {F A : Type 0} (octets : Bytes) (asked : A) (reply : Bytes) {before after : Option (List (Event F))} → after ≡ grown before (Asked octets (Ok reply) ∷ [])
    → Runs {F = F} {A = Bytes × (A × Bytes)} before after (sent octets >>= (λ own. ended (octets, (asked, own)))) (Ok (octets, (asked, reply)))
sent_kept octets asked reply grew = record {
  events = Asked octets (Ok reply) ∷ [];
  grew = grew;
  goes = inl (Asked octets (Ok reply) ∷ [], [], reply, refl, (Ok reply, refl, refl), (refl, refl));
}

pub no_kept_occasion : {F A : Type 0} (request : RequestRecord A) {before after : Option (List (Event F))} {fault : ExchangeFault F}
    (result : Result (Vec ℕ Global × (A × Vec ℕ Global)) (ExchangeFault F)) → IsErrAnd result (λ own. own ≡ fault) → Runs before after began (Err fault)
    → Runs {F = F} {A = Bytes × (A × Bytes)} before after (kept_exchange request) (octets_both result)
no_kept_occasion request (Ok whole) is begins = absurd is
no_kept_occasion {F = F} {A = A} request {before = before} {after = after} (Err own) is begins =
    subst (λ (fault : ExchangeFault F). Runs {F = F} {A = Bytes × (A × Bytes)} before after (kept_exchange request) (Err fault)) (sym is)
    (runs-fault (λ at. made (request.asks at) (request.refuses at) >>= (λ octets. sent octets >>= (λ reply. ended (octets, (request.remembers at, reply))))) begins)

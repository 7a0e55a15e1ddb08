-- By one ticket-granting ticket a client is admitted at each of several services, and by one service ticket each of several times.
use Rattle.std.proofs.Common.{◌≡◌, ◌≤◌, ◌⊎◌, ℕ, false, max, List, [], ◌∷◌, Ok, inl, inr, sym, subst, arith}
use Rattle.std.proofs.lemmas.Bool.{or_from, or_parts}
use Rattle.std.proofs.lemmas.List.Elements.{All-cons, All-head, All-nil, All-tail}
use Rattle.std.specs.List.{All}
use Rattle.krb_time.specs.Skew.{is_far}
use Rattle.krb_time.specs.Units.{Micros}
use Rattle.krb_kdc_exchanges.specs.Rows.{PkinitRows}
use Rattle.krb_kdc_exchanges.specs.Times.{start_of}
use Rattle.krb_client.specs.Client.{ClientRecord, CredentialRecord}
use Rattle.krb_client.specs.Means.{MeansRecord}
use Rattle.krb_service.specs.Pair.{PairRecord, is_among, is_same_pair}
use Rattle.krb_service.specs.Service.{ServiceRecord}
use Rattle.krb_logins.specs.Honest.{IsOneKey, IsTicketInTime, clock_of, further_end, login_pair}
use Rattle.krb_logins.specs.Laws.{IsMet}
use Rattle.krb_logins.specs.LoginRun.{ApExchange, AsExchange, Exchanges, LoginRun, TgsExchange}
use Rattle.krb_logins.specs.Parties.{LoginRecord, RealmRecord, RememberedRecord}
use Rattle.krb_logins.specs.Uses.{AreUses, AreUsesMet, IsVisit, IsVisitMet, UseRecord, VisitRecord, admitted_in, used_at, visited_at}
use Rattle.krb_logins.proofs.EndsWithOneKey.{are_laws, ends_with_one_key, exchanges_held}
use Rattle.krb_logins.proofs.ApEnds.{IsAfter}
use Rattle.krb_logins.proofs.OneKey.{ap_after}

module _ (client : ClientRecord) (means : MeansRecord) (realm : RealmRecord) (rows : PkinitRows) (login : LoginRecord) where
  -- the AS exchange of a visit is that of the login
  its_first : (granting : CredentialRecord) (visit : VisitRecord) → AsExchange client means realm rows login (Ok granting)
      → AsExchange client means realm rows (visited_at login visit) (Ok granting)
  unfolding AsExchange
  its_first granting visit exchange = exchange

  -- so a visit is a login
  is_login : (granting : CredentialRecord) (visit : VisitRecord) → AsExchange client means realm rows login (Ok granting) → IsVisit client realm rows login granting visit
      → LoginRun client means realm rows visit.service (visited_at login visit) visit.before visit.used.result visit.used.after
  unfolding LoginRun Exchanges
  is_login granting visit exchange (inl x) = inl (x.0, inl (granting, its_first granting visit exchange, x.1), x.2)
  is_login granting visit exchange (inr x) = inr (x.0, inl (granting, its_first granting visit exchange, x.1), x.2, x.3)

  visit_ends : (granting : CredentialRecord) (visit : VisitRecord) → AsExchange client means realm rows login (Ok granting) → IsVisit client realm rows login granting visit
      → IsVisitMet client means realm rows login visit → IsOneKey client visit.used.result
  visit_ends granting visit exchange is met =
      ends_with_one_key client means realm rows visit.service visit.before (visited_at login visit) met visit.used.result visit.used.after (is_login granting visit exchange is)

  abbrev EndsWell : VisitRecord → Type 0
  EndsWell visit = IsOneKey client visit.used.result

  pub each_visit : (granting : CredentialRecord) (visits : List VisitRecord) → AsExchange client means realm rows login (Ok granting) → All (IsVisit client realm rows login granting) visits
      → All (IsVisitMet client means realm rows login) visits → All EndsWell visits
  each_visit granting [] exchange are met = All-nil EndsWell
  each_visit granting (visit ∷ visits) exchange are met =
      All-cons EndsWell visit visits
      (visit_ends granting visit exchange (All-head (IsVisit client realm rows login granting) visit visits are) (All-head (IsVisitMet client means realm rows login) visit visits met))
      (each_visit granting visits exchange (All-tail (IsVisit client realm rows login granting) visit visits are) (All-tail (IsVisitMet client means realm rows login) visit visits met))

-- a clock that doesn't go back is the clock of the call
one_clock : (own other now : ℕ) → own ≤ other → other ≤ now → max other now ≡ max own now
one_clock own other now earlier forward = omega (arith, earlier, forward)

-- a service remembers no more than another one
record IsBelow (own other : RememberedRecord) : Type 0 where
  fewer : (pair : PairRecord) → is_among pair other.admitted ≡ false → is_among pair own.admitted ≡ false
  earlier : own.greatest ≤ other.greatest

module _ (client : ClientRecord) (means : MeansRecord) (realm : RealmRecord) (rows : PkinitRows) (service : ServiceRecord) (login : LoginRecord)
    (credential : CredentialRecord) (exchanges : Exchanges client means realm rows login (Ok credential)) where
  abbrev at_use : UseRecord → LoginRecord
  at_use used = used_at login used

  -- the exchanges with the realm are those of the login
  its_exchanges : (used : UseRecord) → Exchanges client means realm rows (at_use used) (Ok credential)
  unfolding Exchanges AsExchange TgsExchange
  its_exchanges used = exchanges

  -- where the other service's clock doesn't go back, what is honest at it is honest at this one
  met_below : (own other : RememberedRecord) (used : UseRecord) → IsBelow own other → other.greatest ≤ used.service_ap
      → IsMet client means realm rows service other (at_use used) → IsMet client means realm rows service own (at_use used)
  met_below own other used below forward met =
      let clocks : clock_of other (at_use used) ≡ clock_of own (at_use used) = one_clock own.greatest other.greatest used.service_ap below.earlier forward in
      record {
        parties = met.parties;
        enough = met.enough;
        granting = met.granting;
        keyed = met.keyed;
        unlimited = met.unlimited;
        honest = record {
          named = met.honest.named;
          client = met.honest.client;
          service = met.honest.service;
          timely = record {
            as_near = met.honest.timely.as_near;
            tgs_near = met.honest.timely.tgs_near;
            ap_near = subst (λ (clock : Micros). is_far service.seen.skew clock used.client_ap ≡ false) clocks met.honest.timely.ap_near;
            first = met.honest.timely.first;
            further = subst (λ (clock : Micros). IsTicketInTime (start_of login.realm_tgs) (further_end realm login) service.seen.skew clock) clocks met.honest.timely.further;
          };
          fresh = below.fewer (login_pair client (at_use used)) met.honest.fresh;
        };
        authenticated = met.authenticated;
      }

  module _ (own other : RememberedRecord) (used : UseRecord) (below : IsBelow own other) (met : IsMet client means realm rows service own (at_use used)) where
    abbrev After : RememberedRecord → Type 0
    After after = IsAfter client own (at_use used) after

    -- neither does it after a use
    earlier_after : (after : RememberedRecord) → After after → after.greatest ≤ clock_of other (at_use used)
    earlier_after after is = by is.greatest
      where
        by : ((after.greatest ≡ clock_of own (at_use used)) ⊎ (after.greatest ≡ own.greatest)) → after.greatest ≤ clock_of other (at_use used)
        by (inl e) = omega (arith, e, below.earlier)
        by (inr e) = omega (arith, e, below.earlier)

    fewer_after : (after : RememberedRecord) → After after → (pair : PairRecord) → is_among pair (login_pair client (at_use used) ∷ other.admitted) ≡ false → is_among pair after.admitted ≡ false
    fewer_after after is pair none = by is.admitted
      where
        each : (is_same_pair (login_pair client (at_use used)) pair ≡ false) × (is_among pair other.admitted ≡ false)
        each = or_parts (is_same_pair (login_pair client (at_use used)) pair) (is_among pair other.admitted) none

        by : ((after.admitted ≡ login_pair client (at_use used) ∷ own.admitted) ⊎ (after.admitted ≡ own.admitted)) → is_among pair after.admitted ≡ false
        by (inl e) =
            subst (λ (pairs : List PairRecord). is_among pair pairs ≡ false) (sym e)
            (or_from (is_same_pair (login_pair client (at_use used)) pair) (is_among pair own.admitted) each.0 (below.fewer pair each.1))
        by (inr e) = subst (λ (pairs : List PairRecord). is_among pair pairs ≡ false) (sym e) (below.fewer pair each.1)

    below_after : ApExchange client service (at_use used) credential own used.result used.after → IsBelow used.after (admitted_in client other (at_use used))
    below_after exchange =
        let holds = exchanges_held client means realm rows service own (at_use used) met credential (its_exchanges used) in
        let is = ap_after client means realm rows service own (at_use used) met (are_laws client means realm rows service own (at_use used) met) credential used.result used.after holds exchange in
        record { fewer = fewer_after used.after is; earlier = earlier_after used.after is }

    use_ends : ApExchange client service (at_use used) credential own used.result used.after → IsOneKey client used.result
    unfolding LoginRun
    use_ends exchange = ends_with_one_key client means realm rows service own (at_use used) met used.result used.after (inl (credential, its_exchanges used, exchange))

  abbrev UsedWell : UseRecord → Type 0
  UsedWell used = IsOneKey client used.result

  each_below : (own other : RememberedRecord) (uses : List UseRecord) → IsBelow own other → AreUsesMet client means realm rows service login other uses
      → AreUses client service login credential own uses → All UsedWell uses
  each_below own other [] below met run = All-nil UsedWell
  each_below own other (used ∷ uses) below met run =
      let own_met = met_below own other used below met.0 met.1 in
      All-cons UsedWell used uses (use_ends own other used below own_met run.0)
      (each_below used.after (admitted_in client other (at_use used)) uses (below_after own other used below own_met run.0) met.2 run.1)

  pub each_use : (before : RememberedRecord) (uses : List UseRecord) → AreUsesMet client means realm rows service login before uses → AreUses client service login credential before uses
      → All UsedWell uses
  each_use before uses met run = each_below before before uses (record { fewer = λ pair none. none; earlier = omega arith }) met run

-- A login whose steps all lie within one clock skew is timely.
use Rattle.std.proofs.Common.{◌≡◌, ◌<◌, ◌≤◌, ℕ, ◌+◌, ◌*◌, Bool, false, min, Option, None, Some, inl, inr, refl, sym, subst, arith}
use Rattle.std.proofs.lemmas.Bool.{cases_Bool, le-ltb, or_from}
use Rattle.std.specs.Prelude.{if◌then◌else◌, nat_lt, ◌==◌}
use Rattle.asn1_leaves.specs.GeneralizedTime.{seconds_of}
use Rattle.krb_time.specs.Skew.{is_before, is_far}
use Rattle.krb_time.specs.Units.{Micros, Seconds}
use Rattle.krb_service.specs.Seen.{IsWholeSeconds}
use Rattle.krb_service.specs.Service.{ServiceRecord}
use Rattle.krb_kdc_exchanges.specs.Times.{asked_end, end_of, last_second, no_end, old_end, start_of}
use Rattle.krb_logins.specs.Honest.{IsTicketInTime, IsTimely, clock_of, first_end, further_end, realm_skew}
use Rattle.krb_logins.specs.Near.{AreNear, IsLasting, IsWithin, common_skew}
use Rattle.krb_logins.specs.Parties.{LoginRecord, RealmRecord, RememberedRecord}
use Rattle.krb_logins.proofs.LastSecond.{second_below}
use Rattle.krb_logins.proofs.Times.{before_end}

-- two moments in one span aren't far from one another
not_far : (start span skew a b : Micros) → IsWithin start span a → IsWithin start span b → span ≤ skew → is_far skew a b ≡ false
not_far start span skew a b x y least =
    or_from (nat_lt (a + skew) b) (nat_lt (b + skew) a)
    (le-ltb (a + skew) b (omega (arith, x.begun, x.lasts, y.begun, y.lasts, least)))
    (le-ltb (b + skew) a (omega (arith, x.begun, x.lasts, y.begun, y.lasts, least)))

-- the lesser skew is neither greater than the realm's nor than the service's
lesser : (a b : ℕ) → min a b ≤ a
lesser a b = omega arith

lesser_of_second : (a b : ℕ) → min a b ≤ b
lesser_of_second a b = omega arith

-- the end that is asked for is one that a message can name
asked_below : (till : Seconds) → till ≤ last_second → asked_end till ≤ last_second
asked_below till below = elim (cases_Bool (till == no_end)) [
  | inl e ↦ subst (λ (b : Bool). (if b then last_second else till) ≤ last_second) (sym e) (omega arith)
  | inr e ↦ subst (λ (b : Bool). (if b then last_second else till) ≤ last_second) (sym e) below
]

-- where both skews are whole seconds, a lifetime that exceeds the lesser one does so by a second at least
by_a_second : (seconds : Seconds) (skew : Micros) (lifetime : Seconds) → IsWholeSeconds skew → min (seconds * 1000000) skew < lifetime * 1000000
    → min (seconds * 1000000) skew + 1000000 ≤ lifetime * 1000000
by_a_second seconds skew lifetime whole longer = omega (arith, whole, longer)

-- a moment isn't past an end and the skew
abbrev Reaches : Micros → Micros → Seconds → Type 0
Reaches skew moment end = moment ≤ end * 1000000 + skew

reaches_least : (skew moment : Micros) (a b : Seconds) → Reaches skew moment a → Reaches skew moment b → Reaches skew moment (min a b)
reaches_least skew moment a b p q = omega (arith, p, q)

-- nor is it past the end of a ticket, where it isn't past what the end is the least of
reaches_end : (skew clock : Micros) (lifetime start : Seconds) (old : Option Seconds) (till : Seconds) → Reaches skew clock (asked_end till) → Reaches skew clock (start + lifetime)
    → Reaches skew clock (old_end old) → Reaches skew clock last_second → Reaches skew clock (end_of lifetime start old till)
reaches_end skew clock lifetime start old till asked long before last =
    reaches_least skew clock (asked_end till) (min (start + lifetime) (min (old_end old) last_second)) asked
    (reaches_least skew clock (start + lifetime) (min (old_end old) last_second) long
    (reaches_least skew clock (old_end old) last_second before last))

-- in one span with the moment of a grant is each clock that judges its ticket
module _ (start span skew granted clock : Micros) (at : IsWithin start span granted) (later : IsWithin start span clock) (least : span ≤ skew) where
  begun_by : start_of granted * 1000000 ≤ clock + skew
  begun_by = omega (arith, at.begun, at.lasts, later.begun, later.lasts, least)

  has_begun : is_before skew clock (start_of granted * 1000000) ≡ false
  has_begun = le-ltb (clock + skew) (start_of granted * 1000000) begun_by

  reaches_asked : (end : Seconds) → granted < end * 1000000 → Reaches skew clock end
  reaches_asked end before = omega (arith, before, at.begun, at.lasts, later.begun, later.lasts, least)

  reaches_lifetime : (lifetime : Seconds) → span + 1000000 ≤ lifetime * 1000000 → Reaches skew clock (start_of granted + lifetime)
  reaches_lifetime lifetime longer = omega (arith, longer, at.begun, at.lasts, later.begun, later.lasts, least)

not_past : (skew clock : Micros) (end : Seconds) → Reaches skew clock end → is_before skew (end * 1000000) clock ≡ false
not_past skew clock end reaches = le-ltb (end * 1000000 + skew) clock reaches

module _ (realm : RealmRecord) (service : ServiceRecord) (before : RememberedRecord) (login : LoginRecord)
    (whole : IsWholeSeconds service.seen.skew) (near : AreNear (common_skew realm service) before login) (lasting : IsLasting realm service login) where
  abbrev skew : Micros
  skew = common_skew realm service

  abbrev lifetime : Seconds
  lifetime = realm.settings.lifetime

  abbrev till : Seconds
  till = seconds_of login.till

  abbrev clock : Micros
  clock = clock_of before login

  of_realm : skew ≤ realm_skew realm
  of_realm = lesser (realm_skew realm) service.seen.skew

  of_service : skew ≤ service.seen.skew
  of_service = lesser_of_second (realm_skew realm) service.seen.skew

  longer : skew + 1000000 ≤ lifetime * 1000000
  longer = by_a_second realm.settings.skew service.seen.skew lifetime whole lasting.lifetime

  last : asked_end till ≤ last_second
  last = asked_below till (omega (arith, second_below login.till))

  -- the seconds of both grants lie before the end that is asked for
  first_asked : start_of login.realm_as < asked_end till
  first_asked = omega (arith, lasting.first)

  further_asked : start_of login.realm_tgs < asked_end till
  further_asked = omega (arith, lasting.further)

  -- and so before both ends
  first_lasts : start_of login.realm_as < first_end realm login
  first_lasts = before_end (start_of login.realm_as) lifetime (start_of login.realm_as) None till first_asked (omega (arith, longer)) (omega (arith, first_asked, last)) last

  by_lifetime : start_of login.realm_tgs < start_of login.realm_as + lifetime
  by_lifetime = omega (arith, near.realm_as.begun, near.realm_tgs.lasts, longer)

  further_by_first : start_of login.realm_tgs < first_end realm login
  further_by_first = before_end (start_of login.realm_tgs) lifetime (start_of login.realm_as) None till further_asked by_lifetime (omega (arith, further_asked, last)) last

  further_lasts : start_of login.realm_tgs < further_end realm login
  further_lasts = before_end (start_of login.realm_tgs) lifetime (start_of login.realm_tgs) (Some (first_end realm login)) till further_asked (omega (arith, longer)) further_by_first last

  -- no clock is past them
  abbrev Reached : Seconds → Type 0
  Reached end = Reaches service.seen.skew clock end

  reaches_last : (reached : Reached (asked_end till)) → Reached last_second
  reaches_last reached = omega (arith, reached, last)

  first_reached : Reached (asked_end till)
  first_reached = reaches_asked near.start skew service.seen.skew login.realm_as clock near.realm_as near.clock of_service (asked_end till) lasting.first

  reaches_first : Reached (first_end realm login)
  reaches_first =
      reaches_end service.seen.skew clock lifetime (start_of login.realm_as) None till first_reached
      (reaches_lifetime near.start skew service.seen.skew login.realm_as clock near.realm_as near.clock of_service lifetime longer)
      (reaches_last first_reached) (reaches_last first_reached)

  reaches_further : Reached (further_end realm login)
  reaches_further =
      reaches_end service.seen.skew clock lifetime (start_of login.realm_tgs) (Some (first_end realm login)) till
      (reaches_asked near.start skew service.seen.skew login.realm_tgs clock near.realm_tgs near.clock of_service (asked_end till) lasting.further)
      (reaches_lifetime near.start skew service.seen.skew login.realm_tgs clock near.realm_tgs near.clock of_service lifetime longer)
      reaches_first (reaches_last first_reached)

  -- the realm's own clock is before the end of the first
  in_first : (second end : Seconds) (moment : Micros) → second ≡ start_of moment → second < end → Reaches (realm_skew realm) moment end
  in_first second end moment is earlier = omega (arith, is, earlier)

  first : IsTicketInTime (start_of login.realm_as) (first_end realm login) (realm_skew realm) login.realm_tgs
  first = record {
    lasts = first_lasts;
    begun = has_begun near.start skew (realm_skew realm) login.realm_as login.realm_tgs near.realm_as near.realm_tgs of_realm;
    not_ended = not_past (realm_skew realm) login.realm_tgs (first_end realm login)
        (in_first (start_of login.realm_tgs) (first_end realm login) login.realm_tgs refl further_by_first);
  }

  further : IsTicketInTime (start_of login.realm_tgs) (further_end realm login) service.seen.skew clock
  further = record {
    lasts = further_lasts;
    begun = has_begun near.start skew service.seen.skew login.realm_tgs clock near.realm_tgs near.clock of_service;
    not_ended = not_past service.seen.skew clock (further_end realm login) reaches_further;
  }

  pub near_is_timely : IsTimely realm service before login
  near_is_timely = record {
    as_near = not_far near.start skew (realm_skew realm) login.realm_as login.client_as near.realm_as near.client_as of_realm;
    tgs_near = not_far near.start skew (realm_skew realm) login.realm_tgs login.client_tgs near.realm_tgs near.client_tgs of_realm;
    ap_near = not_far near.start skew service.seen.skew clock login.client_ap near.clock near.client_ap of_service;
    first = first;
    further = further;
  }

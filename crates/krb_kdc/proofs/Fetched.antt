-- Accounts that are looked up one after the other.
use Rattle.std.proofs.Common.{◌≡◌, Bool, true, false, cond, List, Option, None, Some, Result, Ok, Err, OnOk, is_some, refl, sym, ap, subst, ◌∙◌}
use Rattle.std.specs.Cmp.{eq_by_cmp_equiv}
use Rattle.std.specs.FinMap.{empty, get, get-empty, get-insert, insert}
use Rattle.std.specs.Ordering.{eq_by_cmp, is_eq}
use Rattle.std.specs.declared.cmp.Ordering.{Ordering}
use Rattle.std.specs.declared.cmp.Ordering.TheVariants.{Less, Equal, Greater}
use Rattle.picky_asn1.specs.Bytes.{Bytes}
use Rattle.picky_asn1_der.specs.Found.{IsFound}
use Rattle.krb_realm_accounts.specs.Account.{AccountRecord}
use Rattle.krb_realm_accounts.specs.Accounts.{AccountMap, Look, look_in, name_apart, name_cmp, name_total}
use Rattle.krb_messages.specs.Names.{components}
use Rattle.krb_messages.specs.declared.data_types.principal_name.PrincipalName.{PrincipalName}
use Rattle.krb_kdc.specs.Few.{AreOf, IsFetched, Knows}
use Rattle.krb_kdc_exchanges.specs.Requests.{body_of, service_of}
use Rattle.krb_messages.specs.Padata.{padata_in}
use Rattle.krb_messages.specs.declared.messages.kdc_req.KdcReq.{KdcReq}
use Rattle.krb_messages.specs.declared.data_types.enc_ticket_part.EncTicketPartInner.{EncTicketPartInner}
use Rattle.krb_messages.specs.declared.data_types.pa_data.PaData.{PaData}
use Rattle.krb_kdc.specs.Involved.{IsNamedFetched, KnowsFurther, KnowsNamed}
use Rattle.krb_kdc.specs.Tickets.{IsClientFetched, IsTgsReqTicket}

-- where a call succeeded, what follows from its success
pub on_ok : {T E : Type 0} (result : Result T E) (P Q : Type 0) → (P → Q) → OnOk result P → OnOk result Q
on_ok (Ok value) P Q follows p = follows p
on_ok (Err error) P Q follows p = tt

-- no accounts are all accounts' own
pub none_own : (all : Look) (few : AccountMap) → few ≡ empty → AreOf all few
none_own all few is name account e = absurd (of (ap (λ m. get m name) is ∙ get-empty name_cmp name) e)
  where
    of : look_in few name ≡ None → look_in few name ≡ Some account → ⊥
    of f g = cc (f, g)

-- a name that is among the few
pub held : (all : Look) (few : AccountMap) (name : List Bytes) → is_some (look_in few name) ≡ true → IsFetched all name few few
held all few name has = record { own = λ own. own; known = by (look_in few name) refl has; kept = λ other knows. knows }
  where
    by : (found : Option AccountRecord) → look_in few name ≡ found → is_some found ≡ true → AreOf all few → Knows all few name
    by None e there own = absurd (cc there)
    by (Some account) e there own = e ∙ sym (own name account e)

-- a name that isn't, and has no account
pub lacking : (all : Look) (few : AccountMap) (name : List Bytes) → is_some (look_in few name) ≡ false → all name ≡ None → IsFetched all name few few
lacking all few name has none = record { own = λ own. own; known = λ own. by (look_in few name) refl has; kept = λ other knows. knows }
  where
    by : (found : Option AccountRecord) → look_in few name ≡ found → is_some found ≡ false → Knows all few name
    by None e there = e ∙ sym none
    by (Some account) e there = absurd (cc there)

tied : (order : Ordering) → is_eq order ≡ true → order ≡ Equal
tied Less e = absurd (cc e)
tied Equal e = refl
tied Greater e = absurd (cc e)

same_name : (a b : List Bytes) → eq_by_cmp name_cmp a b ≡ true → a ≡ b
same_name a b e = name_apart a b (tied (name_cmp a b) e)

-- a name whose account is put to the few
module _ (all : Look) (name : List Bytes) (account : AccountRecord) (old new : AccountMap) (is : new ≡ insert old name account) (has : all name ≡ Some account) where
  step : (other : List Bytes) → look_in new other ≡ cond (eq_by_cmp name_cmp other name) (Some account) (look_in old other)
  step other = ap (λ m. look_in m other) is ∙ get-insert name_total old name account other

  put_own : AreOf all old → AreOf all new
  put_own own other found e = by (eq_by_cmp name_cmp other name) refl (sym (step other) ∙ e)
    where
      by : (same : Bool) → eq_by_cmp name_cmp other name ≡ same → cond same (Some account) (look_in old other) ≡ Some found → all other ≡ Some found
      by true same f = ap all (same_name other name same) ∙ has ∙ f
      by false same f = own other found f

  put_known : Knows all new name
  put_known = step name ∙ ap (λ same. cond same (Some account) (look_in old name)) ((eq_by_cmp_equiv name_total).refl name) ∙ sym has

  put_kept : (other : List Bytes) → Knows all old other → Knows all new other
  put_kept other knows = by (eq_by_cmp name_cmp other name) refl (step other)
    where
      by : (same : Bool) → eq_by_cmp name_cmp other name ≡ same → look_in new other ≡ cond same (Some account) (look_in old other) → Knows all new other
      by true same e = e ∙ sym has ∙ sym (ap all (same_name other name same))
      by false same e = e ∙ knows

  pub put : IsFetched all name old new
  put = record { own = put_own; known = λ own. put_known; kept = put_kept }

-- a name that is given, and one that isn't
pub named : (all : Look) (name : PrincipalName) (old new : AccountMap) → IsFetched all (components name) old new → IsNamedFetched all (Some name) old new
named all name old new fetched = record { own = fetched.own; known = fetched.known; kept = fetched.kept }

pub unnamed : (all : Look) (few : AccountMap) → IsNamedFetched all None few few
unnamed all few = record { own = λ own. own; known = λ own. tt; kept = λ other knows. knows }

pub kept_named : (all : Look) (old new : AccountMap) (name : Option PrincipalName) → ((other : List Bytes) → Knows all old other → Knows all new other)
    → KnowsNamed all old name → KnowsNamed all new name
kept_named all old new None kept knows = tt
kept_named all old new (Some name) kept knows = kept (components name) knows

-- client and service of an AS request
pub two_named : (all : Look) (none first second : AccountMap) (a b client service : Option PrincipalName) → none ≡ empty → a ≡ client → b ≡ service
    → IsNamedFetched all a none first → IsNamedFetched all b first second → KnowsNamed all second client × KnowsNamed all second service
two_named all none first second a b client service is same_a same_b one two =
    let own = none_own all none is in
    (kept_named all first second client two.kept (subst (KnowsNamed all first) same_a (one.known own)), subst (KnowsNamed all second) same_b (two.known (one.own own)))

-- what a TGS request involves
module _ (all : Look) (none first second third : AccountMap) (tgs : List Bytes) (named : Option PrincipalName) (request : KdcReq) (is : none ≡ empty)
    (same : named ≡ service_of (body_of request)) (one : IsFetched all tgs none first) (two : IsClientFetched all tgs (padata_in request) first second) (three : IsNamedFetched all named second third) where
  knows_tgs : Knows all third tgs
  knows_tgs = three.kept tgs (two.kept tgs (one.known (none_own all none is)))

  knows_client : (part : EncTicketPartInner) → IsTgsReqTicket third tgs (padata_in request) part → Knows all third (components part.cname.0)
  knows_client part ticket =
      let own = none_own all none is in
      let early : IsTgsReqTicket first tgs (padata_in request) part = record {
        value = ticket.value;
        ap_req = ticket.ap_req;
        account = ticket.account;
        first = ticket.first;
        read = ticket.read;
        has = one.known own ∙ sym knows_tgs ∙ ticket.has;
        opens = ticket.opens;
      } in
      three.kept (components part.cname.0) (two.known (one.own own) part early)

  pub further : KnowsFurther all third tgs request
  further = record {
    granting = knows_tgs;
    client = knows_client;
    service = subst (KnowsNamed all third) same (three.known (two.own (one.own (none_own all none is))));
  }

-- by names that are that of the ticket-granting service
pub further_by : (all : Look) (none first second third : AccountMap) (a b tgs : List Bytes) (given : Option PrincipalName) (request : KdcReq) → none ≡ empty → a ≡ tgs → b ≡ tgs
    → given ≡ service_of (body_of request) → IsFetched all a none first → IsClientFetched all b (padata_in request) first second → IsNamedFetched all given second third
    → KnowsFurther all third tgs request
further_by all none first second third a b tgs given request is same_a same_b same one two three =
    further all none first second third tgs given request is same (subst (λ n. IsFetched all n none first) same_a one)
    (subst (λ n. IsClientFetched all n (padata_in request) first second) same_b two) three

-- the ticket that a TGS request presents, by the accounts as they are in the end
module _ (few other : AccountMap) (tgs : List Bytes) (padata : List PaData) (same : look_in few tgs ≡ look_in other tgs) where
  moved : (part : EncTicketPartInner) → IsTgsReqTicket few tgs padata part → IsTgsReqTicket other tgs padata part
  moved part ticket = record {
    value = ticket.value;
    ap_req = ticket.ap_req;
    account = ticket.account;
    first = ticket.first;
    read = ticket.read;
    has = sym same ∙ ticket.has;
    opens = ticket.opens;
  }

found_moved : (few other : AccountMap) (tgs : List Bytes) (padata : List PaData) → look_in few tgs ≡ look_in other tgs → (ticket : Option EncTicketPartInner)
    → IsFound (IsTgsReqTicket few tgs padata) ticket → IsFound (IsTgsReqTicket other tgs padata) ticket
found_moved few other tgs padata same None found = λ part ticket. found part (moved other few tgs padata (sym same) part ticket)
found_moved few other tgs padata same (Some part) found = moved few other tgs padata same part found

pub ticket_by : (all : Look) (none first second third : AccountMap) (a b tgs : List Bytes) (given : Option PrincipalName) (padata : List PaData) (ticket : Option EncTicketPartInner)
    → none ≡ empty → a ≡ tgs → b ≡ tgs → IsFetched all a none first → IsClientFetched all b padata first second → IsNamedFetched all given second third
    → IsFound (IsTgsReqTicket first b padata) ticket → IsFound (IsTgsReqTicket third tgs padata) ticket
ticket_by all none first second third a b tgs given padata ticket is same_a same_b one two three found =
    let early : Knows all first tgs = subst (Knows all first) same_a (one.known (none_own all none is)) in
    let late : Knows all third tgs = three.kept tgs (two.kept tgs early) in
    found_moved first third tgs padata (early ∙ sym late) ticket (subst (λ n. IsFound (IsTgsReqTicket first n padata) ticket) same_b found)

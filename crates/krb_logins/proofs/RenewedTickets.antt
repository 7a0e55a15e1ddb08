-- What a client sees of a renewed ticket.
use Rattle.std.proofs.Common.{◌≡◌, ◌-◌, Bool, true, false, Option, refl, sym, ap, subst, ◌∙◌}
use Rattle.std.specs.Option.{is_some, option_map}
use Rattle.asn1_leaves.specs.GeneralizedTime.{seconds_of}
use Rattle.asn1_leaves.specs.declared.date.GeneralizedTime.{GeneralizedTime}
use Rattle.picky_asn1.specs.BitString.{bit_of}
use Rattle.krb_time.specs.Units.{Seconds}
use Rattle.krb_messages.specs.TicketGranting.{krbtgt_of}
use Rattle.krb_tickets.specs.Grant.{GrantRecord}
use Rattle.krb_tickets.specs.Parts.{flags_of, ticket_part}
use Rattle.krb_tickets.specs.declared.grant.TicketFlags.{TicketFlags}
use Rattle.krb_kdc_exchanges.specs.Renewals.{IsTill, renew_till_of, sole_till}
use Rattle.krb_kdc_exchanges.specs.TgsTable.{further_till}
use Rattle.krb_kdc_exchanges.specs.Times.{end_of, no_end, start_of}
use Rattle.krb_client.specs.Client.{ClientRecord, CredentialRecord}
use Rattle.krb_logins.specs.Parties.{RealmRecord, TgsRecord}
use Rattle.krb_logins.specs.Tickets.{HoldsGranting, HoldsNext, IsNext, IsNextSpan, IsRenewable, IsRenewed, tgs_body, ticket_for}
use Rattle.krb_logins.proofs.NextGranted.{same_till}

-- the flag renewable
renewable_bit : (flags : TicketFlags) → flags.renewable ≡ true → bit_of (flags_of flags) 8 ≡ true
renewable_bit flags is =
    subst (λ renewable. bit_of (flags_of (record flags { renewable = renewable })) 8 ≡ true) (sym is) (by flags.initial flags.pre_authenticated)
  where
    by : (initial pre_authenticated : Bool) → bit_of (flags_of (record flags { renewable = true; initial = initial; pre_authenticated = pre_authenticated })) 8 ≡ true
    by true true = refl
    by true false = refl
    by false true = refl
    by false false = refl

module _ (client : ClientRecord) (realm : RealmRecord) (exchange : TgsRecord) (granting : CredentialRecord) (holds : HoldsGranting client realm granting) (credential : CredentialRecord)
    (renews : exchange.options.renews ≡ true) (renewal : IsRenewable client realm exchange granting) (next : HoldsNext client realm exchange granting holds credential) where
  abbrev old : GrantRecord
  old = ticket_for client realm (krbtgt_of client.realm) holds.words holds.grant

  abbrev it : IsNext client realm exchange old next.holds_it.grant
  it = next.next

  lasts : IsNextSpan true realm exchange old it.span
  lasts = subst (λ b. IsNextSpan b realm exchange old it.span) renews it.lasts

  told : IsTill (renew_till_of (ticket_part old)) it.till
  told = subst (λ b. IsTill (further_till b realm.settings.policy.renewable_life (ticket_part old) it.span (tgs_body client exchange)) it.till) renews it.renews

  -- the renew-till is that of the older grant
  same : it.till ≡ holds.grant.renew_till
  unfolding ticket_part
  same = sole_till (option_map seconds_of old.renew_till) it.till old.renew_till (told ∙ same_till old.renew_till) refl

  is_renewable : next.holds_it.grant.flags.renewable ≡ true
  is_renewable =
      ap (λ (grant : GrantRecord). grant.flags.renewable) it.grants
      ∙ ap (λ (till : Option GeneralizedTime). is_some till) (same ∙ sym holds.held.renew_till ∙ renewal.renew_till)

  -- times as the credentials have them
  life : (seconds_of old.endtime - seconds_of old.starttime) ≡ (seconds_of granting.endtime - seconds_of granting.starttime)
  life =
      let ends_as = sym holds.held.endtime in
      let starts_as = sym holds.held.starttime in
      λ i. seconds_of (ends_as i) - seconds_of (starts_as i)

  ends : seconds_of credential.endtime ≡ end_of (seconds_of old.endtime - seconds_of old.starttime) (start_of exchange.realm_at) (option_map seconds_of old.renew_till) no_end
  ends = ap seconds_of next.holds_it.held.endtime ∙ ap (λ (grant : GrantRecord). seconds_of grant.endtime) it.grants ∙ lasts.ends

  pub renewed : IsRenewed exchange granting credential
  renewed = record {
    authtime = next.holds_it.held.authtime ∙ ap (λ (grant : GrantRecord). grant.auth_time) it.grants ∙ sym holds.held.authtime;
    starts = ap seconds_of next.holds_it.held.starttime ∙ ap (λ (grant : GrantRecord). seconds_of grant.starttime) it.grants ∙ lasts.starts;
    ends = ends
        ∙ ap (λ (n : Seconds). end_of n (start_of exchange.realm_at) (option_map seconds_of old.renew_till) no_end) life
        ∙ ap (λ (till : Option GeneralizedTime). end_of (seconds_of granting.endtime - seconds_of granting.starttime) (start_of exchange.realm_at) (option_map seconds_of till) no_end) (sym holds.held.renew_till);
    renew_till = next.holds_it.held.renew_till ∙ ap (λ (grant : GrantRecord). grant.renew_till) it.grants ∙ same ∙ sym holds.held.renew_till;
    renewable = subst (λ flags. bit_of flags 8 ≡ true) (sym next.holds_it.held.flags) (renewable_bit next.holds_it.grant.flags is_renewable);
  }

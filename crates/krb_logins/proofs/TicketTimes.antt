-- The times of the tickets of an honest login: at the clock that judges it, a ticket has begun, and hasn't ended.
use Rattle.std.proofs.Common.{◌≡◌, ℕ, ◌*◌, ◌==◌, Bool, true, false, Some, refl, sym, ap, subst, ◌∙◌, arith}
use Rattle.std.proofs.lemmas.Bool.{or_from}
use Rattle.std.proofs.lemmas.Nat.Bits.{bit_at_lowest}
use Rattle.std.specs.Int.{bit_at}
use Rattle.asn1_leaves.specs.GeneralizedTime.{seconds_of}
use Rattle.picky_asn1.specs.BitString.{bit_of}
use Rattle.krb_constants.specs.declared.ticket_flags.TheConstants.{INVALID}
use Rattle.krb_time.specs.Skew.{is_before}
use Rattle.krb_time.specs.Units.{Micros, Seconds}
use Rattle.krb_kdc_exchanges.specs.Times.{end_of, start_of}
use Rattle.krb_kdc_exchanges.specs.declared.span.Span.{Span}
use Rattle.krb_ap_requests.specs.ApTable.{is_early, is_late}
use Rattle.krb_tickets.specs.Grant.{GrantRecord}
use Rattle.krb_tickets.specs.Parts.{flags_of, front_octet, masked, ticket_part}
use Rattle.krb_tickets.specs.declared.grant.TicketFlags.{TicketFlags}
use Rattle.krb_logins.specs.Held.{IsFirstSpan, IsFurtherSpan}
use Rattle.krb_logins.specs.Honest.{IsTicketInTime, further_end}
use Rattle.krb_logins.specs.Parties.{LoginRecord, RealmRecord}

-- the bits of an even mask, set or not, are an even number
masked_even : (set : Bool) (half : ℕ) → masked set (2 * half) ≡ 2 * masked set half
masked_even true half = refl
masked_even false half = refl

-- the first octet of a ticket's flags is even: its lowest bit is invalid, which no grant sets
front_even : (flags : TicketFlags) → bit_at (front_octet flags) 0 ≡ 0
front_even flags =
    bit_at_lowest (front_octet flags)
    ∙ omega (arith, masked_even flags.forwardable 0x20, masked_even flags.forwarded 0x10, masked_even flags.proxiable 0x08, masked_even flags.proxy 0x04)

never_invalid : (flags : TicketFlags) → bit_of (flags_of flags) INVALID ≡ false
never_invalid flags = ap (λ bit. bit == 1) (front_even flags)

-- a granted ticket of these times
module _ (grant : GrantRecord) (start end : Seconds) (skew moment : Micros) (in_time : IsTicketInTime start end skew moment) where
  pub not_early : seconds_of grant.starttime ≡ start → is_early skew moment (ticket_part grant) ≡ false
  unfolding ticket_part
  not_early starts =
      or_from (is_before skew moment (seconds_of grant.starttime * 1000000)) (bit_of (flags_of grant.flags) INVALID)
      (subst (λ (s : Seconds). is_before skew moment (s * 1000000) ≡ false) (sym starts) in_time.begun) (never_invalid grant.flags)

  pub not_late : seconds_of grant.endtime ≡ end → is_late skew moment (ticket_part grant) ≡ false
  unfolding ticket_part
  not_late ends = subst (λ (e : Seconds). is_before skew (e * 1000000) moment ≡ false) (sym ends) in_time.not_ended

-- the end of the ticket for the service
pub further_ends : (realm : RealmRecord) (login : LoginRecord) (first span : Span) → IsFirstSpan realm login first → IsFurtherSpan realm login first span
    → seconds_of span.endtime ≡ further_end realm login
further_ends realm login first span first_is further_is =
    further_is.ends ∙ ap (λ (old : Seconds). end_of realm.settings.lifetime (start_of login.realm_tgs) (Some old) (seconds_of login.till)) first_is.ends

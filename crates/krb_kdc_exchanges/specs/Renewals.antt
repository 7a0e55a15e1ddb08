-- Renewable tickets and renewals (RFC 4120, sections 2.3, 3.1.3, 3.3.3). Times are counted from 0000-01-01 00:00:00.
use Rattle.std.specs.Prelude.{◌≡◌, ◌+◌, ◌-◌, ◌&&◌, nat_lt, nat_le, Bool, true, Option, None, Some, min, if◌then◌else◌}
use Rattle.std.specs.Option.{is_some, option_map, option_map_or}
use Rattle.std.proofs.Common.{refl, ap, sym, ◌∙◌}
use Rattle.picky_asn1.specs.BitString.{bit_of}
use Rattle.asn1_leaves.specs.GeneralizedTime.{seconds_of}
use Rattle.asn1_leaves.specs.declared.date.GeneralizedTime.{GeneralizedTime}
use Rattle.asn1_leaves.proofs.TimeLemmas.{seconds_of-injective}
use Rattle.krb_kdc_exchanges.specs.declared.option_bits.TheConstants.{RENEWABLE, RENEWABLE_OK}
use Rattle.krb_tickets.specs.declared.flag_bits.TheConstants as flag
use Rattle.krb_time.specs.Units.{Micros, Seconds}
use Rattle.krb_messages.specs.declared.data_types.enc_ticket_part.EncTicketPartInner.{EncTicketPartInner}
use Rattle.krb_messages.specs.declared.messages.kdc_req_body.KdcReqBody.{KdcReqBody}
use Rattle.decision_tables.specs.One.{IsSole}
use Rattle.krb_ap_requests.specs.ApTable.{starttime_of}
use Rattle.krb_kdc_exchanges.specs.Times.{asked_end, last_second, old_end, start_of}
use Rattle.krb_kdc_exchanges.specs.declared.span.Span.{Span}

-- `rtime`; where it is missing or 19700101000000Z, no end is asked for
abbrev pub rtime_of : KdcReqBody → Seconds
rtime_of body = option_map_or (λ tagged. asked_end (seconds_of tagged.0.0)) body.rtime.0 last_second

-- the renew-till that a request asks for: by renewable its `rtime`, else by renewable-ok its `till`
abbrev pub asked_till : KdcReqBody → Option Seconds
asked_till body =
    if bit_of body.kdc_options.0 RENEWABLE then Some (rtime_of body)
    else (if bit_of body.kdc_options.0 RENEWABLE_OK then Some (seconds_of body.till.0.0) else None)

-- the greatest renew-till: the starttime plus the greatest renewable life, the presented ticket's renew-till, and the last second
abbrev pub till_limit : Seconds → Seconds → Option Seconds → Seconds
till_limit life start old = min (start + life) (min (old_end old) last_second)

-- a renew-till that is after the endtime, where tickets are renewable
abbrev pub till_behind : Seconds → Seconds → Seconds → Option Seconds
till_behind life end till = if nat_lt 0 life && nat_lt end till then Some till else None

-- the renew-till that is granted where one is asked for: none that isn't after the endtime, since it would renew nothing
abbrev pub granted_till : Seconds → Span → Option Seconds → Option Seconds → Option Seconds
granted_till life span old None = None
granted_till life span old (Some asked) = till_behind life (seconds_of span.endtime) (min asked (till_limit life (seconds_of span.starttime) old))

-- the presented ticket's renew-till
abbrev pub renew_till_of : EncTicketPartInner → Option Seconds
renew_till_of part = option_map (λ tagged. seconds_of tagged.0.0) part.renew_till.0

-- the presented ticket is renewable: it has the flag and a renew-till
abbrev pub is_renewable : EncTicketPartInner → Bool
is_renewable part = bit_of part.flags.0 flag.RENEWABLE && is_some part.renew_till.0

-- its renew-till isn't after now
abbrev pub is_outlived : Micros → EncTicketPartInner → Bool
is_outlived moment part = option_map_or (λ tagged. nat_le (seconds_of tagged.0.0) (start_of moment)) part.renew_till.0 true

-- how many seconds the presented ticket lasts: from its starttime, or else its authtime, to its endtime
abbrev pub life_of : EncTicketPartInner → Seconds
life_of part = seconds_of part.endtime.0.0 - seconds_of (starttime_of part)

-- the time is that of these seconds, or there is none
abbrev pub IsTill : Option Seconds → Option GeneralizedTime → Type 0
IsTill wanted till = option_map seconds_of till ≡ wanted

-- seconds are those of one time at most
pub sole_till : (wanted : Option Seconds) → IsSole (IsTill wanted)
sole_till wanted None None x y = refl
sole_till wanted None (Some b) x y = let apart : None ≡ Some (seconds_of b) = x ∙ sym y in absurd (cc (apart))
sole_till wanted (Some a) None x y = let apart : Some (seconds_of a) ≡ None = x ∙ sym y in absurd (cc (apart))
sole_till wanted (Some a) (Some b) x y =
    let both : Some (seconds_of a) ≡ Some (seconds_of b) = x ∙ sym y in
    let same : seconds_of a ≡ seconds_of b = cc (both) in
    ap Some (seconds_of-injective a b same)

-- worked: a week is asked for and granted, then what the policy leaves of it, and where it leaves nothing behind the endtime
one_week : till_limit 604800 63113904000 None ≡ 63114508800
one_week = refl

a_week_asked : till_behind 604800 63113940000 (min 63114508800 (till_limit 604800 63113904000 None)) ≡ Some 63114508800
a_week_asked = refl

less_than_asked : till_behind 86400 63113940000 (min 63114508800 (till_limit 86400 63113904000 None)) ≡ Some 63113990400
less_than_asked = refl

nothing_left : till_behind 3600 63113940000 (min 63114508800 (till_limit 3600 63113904000 None)) ≡ None
nothing_left = refl

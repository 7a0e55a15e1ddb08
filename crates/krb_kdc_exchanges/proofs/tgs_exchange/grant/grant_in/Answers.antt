use Rattle.std.proofs.Common.{◌≡◌, ℕ, Some, Ok, Err, ap, subst, sym, ◌∙◌}
use Rattle.std.specs.Option.{option_map}
use Rattle.std.proofs.lemmas.Result.{err_from_is_err_and}
use Rattle.krb_crypto.specs.Keys.{KeyRecord}
use Rattle.krb_tickets.specs.Grant.{grant_of}
use Rattle.krb_tickets.specs.ReplyKeys.{reply_key_of}
use Rattle.krb_messages.specs.Refusals.{IsJudged}
use Rattle.krb_kdc_exchanges.specs.Allowed.{limited}
use Rattle.krb_kdc_exchanges.specs.Call.{call_of}
use Rattle.krb_kdc_exchanges.specs.SessionKeys.{under}
use Rattle.krb_kdc_exchanges.specs.TgsTable.{first_granted, further_lasting}
use Rattle.krb_kdc_exchanges.proofs.GrantedFurther.{given, no_key, no_suite, not_lasting}
use Rattle.krb_kdc_exchanges.proofs.tgs_exchange.grant.grant_in.Goals as goal

pub returns-in_err-span : goal.returns-in_err-span
returns-in_err-span c =
    let own : c.limited-lifetime.result ≡ limited c.args.service.now c.args.call.now.settings.lifetime = c.limited-lifetime.ensures.value ∙ ap (limited c.args.service.now) c.lifetime.ensures.value in
    let refusal = c.in_err-span.field-0.0 in
    let exit = err_from_is_err_and c.from_residual.result c.from_residual.ensures.1 in
    rw (exit.1, exit.2)
    (not_lasting c.args.renews (call_of c.args.call.now) c.args.opened.now.part.now c.args.opened.now.authenticated.now c.args.service_name.now c.args.service.now c.args.body.now
    refusal
    (subst (λ (n : ℕ). IsJudged (further_lasting c.args.renews n c.args.call.now.moment c.args.opened.now.part.now c.args.body.now).gives (Err refusal)) own c.in_err-span.ensures))

pub returns-in_default : goal.returns-in_default
returns-in_default c =
    let own : c.limited-lifetime.result ≡ limited c.args.service.now c.args.call.now.settings.lifetime = c.limited-lifetime.ensures.value ∙ ap (limited c.args.service.now) c.lifetime.ensures.value in
    let lasts = subst (λ (n : ℕ). (further_lasting c.args.renews n c.args.call.now.moment c.args.opened.now.part.now c.args.body.now).gives (Ok c.in_ok-span.span)) own c.in_ok-span.ensures in
    no_suite c.args.renews (call_of c.args.call.now) c.args.opened.now.part.now c.args.opened.now.authenticated.now c.args.service_name.now c.args.service.now c.args.body.now c.in_ok-span.span lasts
    (sym c.in_default.is ∙ c.first_granted.ensures ∙ (λ i. first_granted (c.without_des3-without.ensures i) (c.as_slice.ensures i)))

pub returns-in_default-subkey_of : goal.returns-in_default-subkey_of
returns-in_default-subkey_of c =
    let own : c.limited-lifetime.result ≡ limited c.args.service.now c.args.call.now.settings.lifetime = c.limited-lifetime.ensures.value ∙ ap (limited c.args.service.now) c.lifetime.ensures.value in
    let lasts = subst (λ (n : ℕ). (further_lasting c.args.renews n c.args.call.now.moment c.args.opened.now.part.now c.args.body.now).gives (Ok c.in_ok-span.span)) own c.in_ok-span.ensures in
    let authenticated = c.args.opened.now.authenticated.now in
    let part = c.args.opened.now.part.now in
    let session : KeyRecord = record { suite = authenticated.suite; bytes = part.key.0.key_value.0 } in
    no_key c.args.renews (call_of c.args.call.now) part authenticated c.args.service_name.now c.args.service.now c.args.body.now c.in_ok-span.span lasts c.in-Some.suite
    (sym c.in-Some.is ∙ c.first_granted.ensures ∙ (λ i. first_granted (c.without_des3-without.ensures i) (c.as_slice.ensures i)))
    (sym (c.subkey_of.ensures session ∙ ap (λ o. option_map (under session) o) c.in_default-subkey_of.is))

pub returns : goal.returns
returns c =
    let own : c.limited-lifetime.result ≡ limited c.args.service.now c.args.call.now.settings.lifetime = c.limited-lifetime.ensures.value ∙ ap (limited c.args.service.now) c.lifetime.ensures.value in
    let lasts = subst (λ (n : ℕ). (further_lasting c.args.renews n c.args.call.now.moment c.args.opened.now.part.now c.args.body.now).gives (Ok c.in_ok-span.span)) own c.in_ok-span.ensures in
    let authenticated = c.args.opened.now.authenticated.now in
    let part = c.args.opened.now.part.now in
    let session : KeyRecord = record { suite = authenticated.suite; bytes = part.key.0.key_value.0 } in (
      given c.args.renews (call_of c.args.call.now) part authenticated c.args.service_name.now c.args.service.now c.args.body.now c.in_ok-span.span lasts c.in-Some.suite
          (reply_key_of c.reply_key-under.result) c.further_till-till.result (grant_of c.in_ok-grant.grant) c.in_ok-made.made.reply.items
          (sym c.in-Some.is ∙ c.first_granted.ensures ∙ (λ i. first_granted (c.without_des3-without.ensures i) (c.as_slice.ensures i)))
          (sym
          (c.subkey_of.ensures session ∙ ap (λ o. option_map (under session) o) c.in-Some-subkey_of.is
          ∙ ap Some (sym (c.reply_key-under.ensures ∙ ap (λ k. under k c.in-Some-subkey_of.subkey) c.requires.key))))
          c.further_till-till.ensures c.in_ok-grant.ensures c.in_ok-made.ensures.reply,
      c.in_ok-made.ensures.ticket,
    )

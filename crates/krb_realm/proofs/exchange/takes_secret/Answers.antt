use Rattle.std.proofs.Common.{◌≡◌, Ok, Err, sym, subst, ◌∙◌}
use Rattle.std.specs.Prelude.{◌↔◌, IsTrue}
use Rattle.picky_asn1.specs.Bytes.{Bytes}
use Rattle.pkinit_clients.specs.Asked.{asked_of}
use Rattle.pkinit_clients.specs.Faults.{IsTakenAs}
use Rattle.pkinit_clients.specs.Replies.{secret_of}
use Rattle.pkinit_clients.specs.declared.fault.ReplyFault.{ReplyFault}
use Rattle.pkinit_clients.specs.declared.fault.ReplyFault.TheVariants.{NotTrusted}
use Rattle.krb_realm.proofs.Honesty.{none_given, one_given}
use Rattle.krb_realm.proofs.exchange.takes_secret.Goals as goal

pub returns-in-Ok : goal.returns-in-Ok
returns-in-Ok g c =
    let own = c.in-Ok.secret.items in
    let other = c.args.agreed.now.secret.items in
    let same : IsTrue c.is_same.result ↔ (own ≡ other) = (
      (λ answer. sym c.as_slice-in-Ok.ensures.value ∙ c.is_same.ensures.0 answer ∙ c.as_slice-in-Ok-2.ensures.value),
      λ equal. c.is_same.ensures.1 (c.as_slice-in-Ok.ensures.value ∙ equal ∙ sym c.as_slice-in-Ok-2.ensures.value),
    ) in
    one_given (secret_of (g.K.KeyFunctions.functions c.args.keys.now) (asked_of c.args.asked.now) c.args.agreed.now.reply.items) own other c.is_same.result
    (subst (λ (r : Bytes). (secret_of (g.K.KeyFunctions.functions c.args.keys.now) (asked_of c.args.asked.now) r).gives (Ok own)) c.as_slice.ensures.value c.in-Ok.ensures) same

pub returns-in-Err-NotTrusted : goal.returns-in-Err-NotTrusted
returns-in-Err-NotTrusted g c =
    let table = secret_of (g.K.KeyFunctions.functions c.args.keys.now) (asked_of c.args.asked.now) c.as_slice.result.now in
    let refused : table.gives (Err NotTrusted) = subst (λ (f : ReplyFault). IsTakenAs {T = Bytes} table.gives (Err f)) c.in-Err-NotTrusted.field-0-is c.in-Err-NotTrusted.ensures in
    let own : (secret_of (g.K.KeyFunctions.functions c.args.keys.now) (asked_of c.args.asked.now) c.args.agreed.now.reply.items).gives (Err NotTrusted) =
    subst (λ (r : Bytes). (secret_of (g.K.KeyFunctions.functions c.args.keys.now) (asked_of c.args.asked.now) r).gives (Err NotTrusted)) c.as_slice.ensures.value refused in (
      (λ never. absurd (cc (never))),
      λ given.
          absurd (none_given (secret_of (g.K.KeyFunctions.functions c.args.keys.now) (asked_of c.args.asked.now) c.args.agreed.now.reply.items) NotTrusted c.args.agreed.now.secret.items own given),
    )

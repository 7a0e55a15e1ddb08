use Rattle.std.proofs.Common.{Err, subst, arith}
use Rattle.krb_kdc_exchanges.specs.PkinitCalls.{AgreedRecord, call_of}
use Rattle.krb_messages.specs.RandomBytes.{AreEnoughForReply}
use Rattle.krb_messages.specs.Refusals.{IsJudged}
use Rattle.krb_messages.specs.declared.refusal.Refusal.{Refusal}
use Rattle.pkinit_validation.specs.PkinitTable.{pkinit_table}
use Rattle.pkinit_validation.specs.Trust.{trust_of}
use Rattle.pkinit_clients.specs.Asked.{asked_of}
use Rattle.krb_realm.proofs.Honesty.{granted_judged, no_grant}
use Rattle.krb_realm.proofs.exchange.has_one_secret.Goals as goal

pub returns-then-call-lt128 : goal.returns-then-call-lt128
returns-then-call-lt128 g c = ((λ never. absurd (cc (never))), λ have. let enough = have.enough in absurd (omega arith))

pub returns-in-Ok : goal.returns-in-Ok
returns-in-Ok g c =
    let enough : AreEnoughForReply c.args.call.now.words.now = omega arith in
    granted_judged (g.C.KeyFunctions.functions c.args.keys.now) (trust_of c.args.pkinit.now.anchor c.args.pkinit.now.certificate) (g.R.KeyFunctions.functions c.args.pkinit.now.keys.now)
    (call_of c.args.call.now) (asked_of c.args.asked.now) c.args.padata.now (record { secret = c.in-Ok.agreed.secret.items; kdf = c.in-Ok.agreed.kdf; reply = c.in-Ok.agreed.reply.items }) c.takes_secret-taken.result
    enough c.in-Ok.ensures c.takes_secret-taken.ensures

pub returns-in-Err-Krb : goal.returns-in-Err-Krb
returns-in-Err-Krb g c =
    let client_keys = g.C.KeyFunctions.functions c.args.keys.now in
    let realm_keys = g.R.KeyFunctions.functions c.args.pkinit.now.keys.now in
    let trust = trust_of c.args.pkinit.now.anchor c.args.pkinit.now.certificate in
    let call = call_of c.args.call.now in
    let refused : (pkinit_table realm_keys trust call c.args.padata.now).gives (Err c.in-Err-Krb.field-0-0) =
    subst (λ (f : Refusal). IsJudged {T = AgreedRecord} (pkinit_table realm_keys trust call c.args.padata.now).gives (Err f)) c.in-Err-Krb.field-0-is c.in-Err-Krb.ensures in
    ((λ never. absurd (cc (never))), λ have. absurd (no_grant client_keys trust realm_keys call (asked_of c.args.asked.now) c.args.padata.now c.in-Err-Krb.field-0-0 refused have))

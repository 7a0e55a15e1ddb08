use Rattle.std.proofs.Common.{◌≡◌, Ok, Err, refl}
use Rattle.krb_realm_accounts.specs.Accounts.{look_in}
use Rattle.krb_kdc_exchanges.specs.Replies.{Replies}
use Rattle.pkinit_validation.specs.PkinitRows.{pkinit_rows}
use Rattle.krb_memory_realms.specs.Realm.{call_to}
use Rattle.krb_memory_realms.proofs.Answered.{begins, of_own, refused, same_rows}
use Rattle.krb_memory_realms.proofs.realm.Realm.answer.Goals as goal

pub returns-in-Ok-clause-answer : goal.returns-in-Ok-clause-answer
returns-in-Ok-clause-answer g c =
    of_own _ c.args.self.now _ c.args.moment c.args.words.now _ _ c.args.message.now (Ok c.in-Ok.reply) c.self.view_is c.limits.ensures
    (same_rows g.K.KeyFunctions.functions c.pkinit-pkinit.ensures.trust c.pkinit-pkinit.ensures.keys) (c.in-Ok.ensures.answer (look_in c.self.inside.accounts) refl)

pub returns-in-Err-clause-answer : goal.returns-in-Err-clause-answer
returns-in-Err-clause-answer g c =
    refused (Replies (call_to c.args.self.now c.args.moment c.args.words.now) (pkinit_rows c.args.self.now.trust (g.K.KeyFunctions.functions c.args.keys.now)) c.args.message.now)
    (λ all. look_in c.self.inside.accounts ≡ all) _ c.args.message.now c.in-Err.refusal _ c.refusal_of.ensures
    (of_own _ c.args.self.now _ c.args.moment c.args.words.now _ _ c.args.message.now (Err c.in-Err.refusal) c.self.view_is c.limits.ensures
    (same_rows g.K.KeyFunctions.functions c.pkinit-pkinit.ensures.trust c.pkinit-pkinit.ensures.keys) (c.in-Err.ensures.answer (look_in c.self.inside.accounts) refl))
    c.in-Err.ensures.refusal

pub returns-in-Err-clause-memory : goal.returns-in-Err-clause-memory
returns-in-Err-clause-memory g c =
    begins (λ all. look_in c.self.inside.accounts ≡ all) _ c.args.message.now c.in-Err.refusal _ c.refusal_of.ensures c.in-Err.ensures.refusal

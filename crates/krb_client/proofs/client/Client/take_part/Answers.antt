use Rattle.std.proofs.Common.{◌≡◌, Ok, not, sym, ap, ◌∙◌}
use Rattle.decision_tables.specs.Tables.{done, need}
use Rattle.krb_tickets.specs.Keys.{suite_of}
use Rattle.krb_tickets.proofs.FoundKeys.{key_found}
use Rattle.krb_tickets.specs.Answers.{is_answer}
use Rattle.krb_client.specs.Taking.{credential_of}
use Rattle.krb_client.specs.declared.refusal.TakeRefusal.TheVariants.{NotAsked}
use Rattle.krb_client.proofs.Outcomes.{needed, passed}
use Rattle.krb_client.proofs.client.Client.take_part.Goals as goal

pub returns : goal.returns
returns c =
    let found = key_found c.args.part.now.key.0 c.in-Some.key (sym c.key_of.ensures ∙ c.in-Some.is) in
    passed (not (is_answer c.args.self.now.realm c.args.self.now.components c.args.service.now c.args.nonce c.args.reply.now c.args.part.now)) NotAsked
    (need (suite_of c.args.part.now.key.0) NotAsked (λ suite. done (Ok (credential_of c.args.reply.now c.args.part.now suite))))
    (Ok c.in_ok-credential.credential) (ap not (sym c.is_answer.ensures ∙ c.if-not-is_answer.false))
    (needed (suite_of c.args.part.now.key.0) NotAsked (λ suite. done (Ok (credential_of c.args.reply.now c.args.part.now suite)))
    (Ok c.in_ok-credential.credential) c.in-Some.key.suite found.0 (ap Ok c.in_ok-credential.ensures))

use Rattle.std.proofs.Common.{subst}
use Rattle.krb_crypto.specs.declared.suite.CipherSuite.{CipherSuite}
use Rattle.krb_client_exchanges.specs.Refusals.{IsHinted}
use Rattle.krb_client_exchanges.specs.AnswerHints.{suite_for}
use Rattle.krb_client_exchanges.proofs.Told.{hinted}
use Rattle.krb_client_exchanges.proofs.answer.suite_of.Goals as goal

pub returns : goal.returns
returns g c =
    let own : IsHinted (suite_for c.args.client.now.suite c.args.suites.now c.args.reply.now) c.suite_for.result =
    subst (λ (suite : CipherSuite). IsHinted (suite_for suite c.args.suites.now c.args.reply.now) c.suite_for.result) c.suite.ensures c.suite_for.ensures in
    rw c.judged_hint.ensures (hinted _ (suite_for c.args.client.now.suite c.args.suites.now c.args.reply.now) c.suite_for.result own)

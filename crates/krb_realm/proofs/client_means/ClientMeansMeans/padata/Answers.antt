use Rattle.std.proofs.Common.{IfOk, subst}
use Rattle.krb_client.specs.Means.{MeansRecord}
use Rattle.krb_realm.proofs.ClientMeans.{means_by_certificate}
use Rattle.krb_realm.proofs.client_means.ClientMeansMeans.padata.Goals as goal

pub returns-in-Certificate-clause-shown : goal.returns-in-Certificate-clause-shown
returns-in-Certificate-clause-shown g c =
    subst (λ (means : MeansRecord). IfOk c.padata-in-Certificate.result (means.asks c.args.body.now c.args.moment c.args.words.now))
    (means_by_certificate g.K.KeyFunctions.functions c.in-Certificate.is c.by_certificate-own.ensures.certificate c.by_certificate-own.ensures.anchor c.by_certificate-own.ensures.keys)
    c.padata-in-Certificate.ensures.shown

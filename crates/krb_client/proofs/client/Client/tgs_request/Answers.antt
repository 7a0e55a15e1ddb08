use Rattle.std.proofs.Common.{◌≡◌, ℕ, List, [], ◌∷◌, IfOk, subst}
use Rattle.krb_realm_accounts.specs.Names.{parts}
use Rattle.krb_crypto.specs.declared.suite.CipherSuite.{CipherSuite}
use Rattle.krb_client.specs.TgsRequest.{AsksTgsOfSuites}
use Rattle.krb_client.proofs.client.Client.tgs_request.Goals as goal

pub returns-clause-asks : goal.returns-clause-asks
returns-clause-asks c =
    subst (λ (suite : CipherSuite). IfOk c.tgs_request_of_suites.result (λ r. AsksTgsOfSuites c.args.self.now (suite ∷ []) c.args.credential.now (parts c.args.request.now.service.now) c.args.request.now.till c.args.request.now.moment c.args.request.now.words.now r.0.items))
    c.suite.ensures c.tgs_request_of_suites.ensures.asks

pub returns-clause-only : goal.returns-clause-only
returns-clause-only c =
    subst (λ (suite : CipherSuite). IfOk c.tgs_request_of_suites.result (λ r. (other : List ℕ) → AsksTgsOfSuites c.args.self.now (suite ∷ []) c.args.credential.now (parts c.args.request.now.service.now) c.args.request.now.till c.args.request.now.moment c.args.request.now.words.now other → other ≡ r.0.items))
    c.suite.ensures c.tgs_request_of_suites.ensures.only

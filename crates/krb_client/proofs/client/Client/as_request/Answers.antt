use Rattle.std.proofs.Common.{◌≡◌, ℕ, List, [], ◌∷◌, IfErr, IfOk, subst}
use Rattle.krb_realm_accounts.specs.Names.{parts}
use Rattle.krb_crypto.specs.declared.suite.CipherSuite.{CipherSuite}
use Rattle.krb_client.specs.AsRequest.{AsksAsOfSuites, IsUnaskedOfSuites}
use Rattle.krb_client.proofs.client.Client.as_request.Goals as goal

pub returns-clause-asks : goal.returns-clause-asks
returns-clause-asks g c =
    subst (λ (suite : CipherSuite). IfOk c.as_request_of_suites.result (λ r. AsksAsOfSuites c.args.self.now (suite ∷ []) (g.M.Means.means c.args.means.now) (parts c.args.request.now.service.now) c.args.request.now.till c.args.request.now.moment c.args.request.now.words.now r.0.items))
    c.suite.ensures c.as_request_of_suites.ensures.asks

pub returns-clause-only : goal.returns-clause-only
returns-clause-only g c =
    subst (λ (suite : CipherSuite). IfOk c.as_request_of_suites.result (λ r. (other : List ℕ) → AsksAsOfSuites c.args.self.now (suite ∷ []) (g.M.Means.means c.args.means.now) (parts c.args.request.now.service.now) c.args.request.now.till c.args.request.now.moment c.args.request.now.words.now other → other ≡ r.0.items))
    c.suite.ensures c.as_request_of_suites.ensures.only

pub returns-clause-refusal : goal.returns-clause-refusal
returns-clause-refusal g c =
    subst (λ (suite : CipherSuite). IfErr c.as_request_of_suites.result (IsUnaskedOfSuites c.args.self.now (suite ∷ []) (g.M.Means.means c.args.means.now) (parts c.args.request.now.service.now) c.args.request.now.till c.args.request.now.moment c.args.request.now.words.now))
    c.suite.ensures c.as_request_of_suites.ensures.refusal

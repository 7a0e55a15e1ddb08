use Rattle.std.proofs.Common.{subst, IfErr, IfOk, ℕ, List, ◌≡◌}
use Rattle.krb_realm_accounts.specs.Names.{parts}
use Rattle.krb_client.specs.AsRequest.{AsksAs, IsUnasked}
use Rattle.krb_realm.proofs.ClientMeans.{same_means}
use Rattle.krb_realm.proofs.client.Client.as_request.Goals as goal

pub returns-clause-asks : goal.returns-clause-asks
returns-clause-asks g c =
    rw c.asking.ensures at (subst (λ means. IfOk c.as_request.result (λ r. AsksAs c.asking.result.now means (parts c.args.service.now) c.args.till c.args.moment c.args.words.now r.0.items))
    (same_means g.K.KeyFunctions.functions c.means-means.ensures.by c.means-means.ensures.keys) c.as_request.ensures.asks)

pub returns-clause-only : goal.returns-clause-only
returns-clause-only g c =
    rw c.asking.ensures at (subst (λ means. IfOk c.as_request.result (λ r. (other : List ℕ) → AsksAs c.asking.result.now means (parts c.args.service.now) c.args.till c.args.moment c.args.words.now other → other ≡ r.0.items))
    (same_means g.K.KeyFunctions.functions c.means-means.ensures.by c.means-means.ensures.keys) c.as_request.ensures.only)

pub returns-clause-refusal : goal.returns-clause-refusal
returns-clause-refusal g c =
    rw c.asking.ensures at (subst (λ means. IfErr c.as_request.result (IsUnasked c.asking.result.now means (parts c.args.service.now) c.args.till c.args.moment c.args.words.now))
    (same_means g.K.KeyFunctions.functions c.means-means.ensures.by c.means-means.ensures.keys) c.as_request.ensures.refusal)

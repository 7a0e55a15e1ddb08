use Rattle.std.proofs.Common.{subst, rules}
use Rattle.krb_realm_accounts.specs.Account.{IsWhole}
use Rattle.krb_realm_accounts.proofs.account.Account.is_whole.Goals as goal

pub returns : goal.returns
returns c =
    subst IsWhole c.self.view_is
    (record {
      sized = c.is_well_formed.ensures;
      counts = c.self.invariant.counts;
      fits = search rules;
      before = c.self.invariant.before;
      few = c.self.invariant.few;
      ends = search rules;
      lifetime = search rules;
    })

use Rattle.std.proofs.Common.{ap, sym, subst, ◌≤◌, ◌∙◌, arith}
use Rattle.std.specs.Bool.{beq}
use Rattle.std.specs.Cmp.{booleans_Decides}
use Rattle.gss_contexts.specs.Contexts.{other_side}
use Rattle.gss_contexts.specs.Tokens.{is_acceptor}
use Rattle.gss_contexts.proofs.Ends.{ne-false}
use Rattle.gss_contexts.proofs.Judged.{no_gap_left, other_flag}
use Rattle.gss_contexts.proofs.context.Context.judge.Goals as goal

pub returns-clause-peers : goal.returns-clause-peers
returns-clause-peers c = record {
  by_acceptor =
      sym c.is_set.ensures ∙ other_flag c.is_set.result c.self.inside.sender.side (ap (beq c.is_set.result) (sym c.is_acceptor.ensures) ∙ c.if-is_set-is_acceptor.false)
      ∙ ap (λ r. is_acceptor (other_side r.side)) c.self.view_is;
  under_subkey =
      sym c.is_set-2.ensures ∙ (booleans_Decides _ _).0 (ne-false _ c.if-is_set-self.false) ∙ ap (λ r. r.acceptor_subkey) c.self.view_is;
  is_new = subst (λ n. n ≤ c.u64_be-number.result) (ap (λ r. r.taking) c.self.view_is) c.if-number-self.false;
  in_order = no_gap_left c.args.self.now.in_sequence c.args.self.now.taking c.u64_be-number.result (sym c.leaves_gap.ensures ∙ c.if-leaves_gap.false)
      (subst (λ n. n ≤ c.u64_be-number.result) (ap (λ r. r.taking) c.self.view_is) c.if-number-self.false);
  followed = omega arith;
  stands = c.u64_be-number.ensures.stands;
}

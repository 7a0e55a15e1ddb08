use Rattle.std.proofs.Common.{◌≡◌, ◌+◌, ◌++◌, true, take, drop, bytes_eq, ap, sym, subst, ◌∙◌}
use Rattle.gss_contexts.specs.Contexts.{ContextRecord, peer}
use Rattle.gss_contexts.specs.Tokens.{sign_usage, sum_of}
use Rattle.gss_contexts.proofs.Judged.{mic_taken}
use Rattle.gss_contexts.proofs.context.Context.verify_mic.Goals as goal

pub returns-clause-taken : goal.returns-clause-taken
returns-clause-taken c =
    let token = c.args.token.now in
    let peers = c.in_ok-number.ensures.peers in
    let same = sym c.in_ok-is_peers_sum.ensures ∙ c.if-not-branch.false in
    record {
      number = c.in_ok-number.number;
      is_new = peers.is_new;
      in_order = peers.in_order;
      followed = peers.followed;
      is_mic_of = mic_taken c.args.self.now c.args.message.now token c.in_ok-number.number (sym c.is_mic.ensures.test ∙ c.in_ok-number.ensures.is_token) peers
          (subst (λ r. bytes_eq (drop 16 token) (sum_of r.key (sign_usage (peer r).side) (c.args.message.now ++ take 16 token)) ≡ true) c.self.view_is same);
      moved = ap (λ (r : ContextRecord). record r { taking = c.in_ok-number.number + 1 }) c.self.view_is;
    }

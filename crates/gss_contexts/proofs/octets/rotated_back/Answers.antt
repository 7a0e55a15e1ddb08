use Rattle.std.proofs.Common.{◌≡◌, ◌≤◌, ◌%◌, length, ap, rules}
use Rattle.std.proofs.lemmas.Result.{IfOk-weaker}
use Rattle.gss_contexts.proofs.Rotated.{empty_again, made_again}
use Rattle.gss_contexts.proofs.octets.rotated_back.Goals as goal

pub returns-then-is_empty : goal.returns-then-is_empty
returns-then-is_empty c =
    let none : length c.args.octets.now ≡ 0 = search rules in
    empty_again c.args.count c.args.octets.now c.new.result.items none c.new.ensures.items

pub returns : goal.returns
returns c =
    let inside : c.from.result % length c.args.octets.now ≤ length c.args.octets.now = search rules in
    let is_cut = ap (λ n. n % length c.args.octets.now) c.from.ensures in
    IfOk-weaker c.joined.result _ _ (λ text is. made_again c.args.count _ c.args.octets.now text.items is_cut inside is) c.joined.ensures

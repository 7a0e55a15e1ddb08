use Rattle.std.proofs.Common.{◌≡◌, ◌+◌, ◌-◌, ◌++◌, ℕ, List, [], length, ap, subst, sym, ◌∙◌, arith}
use Rattle.std.proofs.lemmas.Result.{err_from_is_err_and}
use Rattle.krb_realm_accounts.specs.Account.{AccountKeyRecord, AreBefore}
use Rattle.krb_realm_files.specs.FurtherFields.{keys_in}
use Rattle.krb_realm_files.proofs.OlderKeys.{all_before, all_read, joined, none_joined, none_read, one_before, one_counted, one_read}
use Rattle.krb_realm_files.proofs.further_fields.keys_in.Goals as goal

pub loop-init : goal.loop-init
loop-init c =
    let count : ℕ = c.args.count in
    let kvno : ℕ = c.args.kvno in
    let octets : List ℕ = c.args.octets.now in
    let whole : count - 0 ≡ count = omega arith in
    let none : c.new-keys.result.items ≡ [] = c.new-keys.ensures.items in
    let no_length : length c.new-keys.result.items ≡ 0 = ap (λ (done : List AccountKeyRecord). length done) none in
    record {
      read = ap (λ (done : List AccountKeyRecord). joined done (keys_in (count - 0) kvno octets)) none ∙ none_joined (keys_in (count - 0) kvno octets) ∙ ap (λ (n : ℕ). keys_in n kvno octets) whole;
      before = λ more are. subst (λ (done : List AccountKeyRecord). AreBefore kvno (done ++ more)) (sym none) are;
      counted = omega (arith, no_length);
    }

pub loop-preserved : goal.loop-preserved
loop-preserved c =
    let (own, is, same, older, grown) = c.in_ok-next.ensures in
    let count = c.args.count in
    let counter = c.loop.counter in
    record {
      read = one_read c.loop.keys.items _ own (count - counter) (count - (counter + 1)) c.loop.below _ count c.args.kvno c.loop.rest.now _ c.args.octets.now (omega (arith, c.loop-test.true)) is same grown c.loop.invariant.read;
      before = one_before c.loop.keys.items _ own c.loop.below _ c.args.kvno grown same older c.loop.invariant.before;
      counted = one_counted c.loop.keys.items _ own count counter c.loop-test.true grown c.loop.invariant.counted;
    }

pub returns-in_err-next-clause-read : goal.returns-in_err-next-clause-read
returns-in_err-next-clause-read c =
    let count = c.args.count in
    let counter = c.loop.counter in
    let exit = err_from_is_err_and c.from_residual.result c.from_residual.ensures.1 in
    rw (exit.1, exit.2)
    (none_read c.in_err-next.field-0.0 c.loop.keys.items (count - counter) (count - (counter + 1)) c.loop.below count c.args.kvno c.loop.rest.now c.args.octets.now (omega (arith, c.loop-test.true))
    c.in_err-next.ensures c.loop.invariant.read)

pub returns-clause-read : goal.returns-clause-read
returns-clause-read c =
    all_read c.loop.keys.items (c.args.count - c.loop.counter) c.loop.below c.args.count c.args.kvno c.loop.rest.now c.args.octets.now (omega (arith, c.loop-test.false)) c.loop.invariant.read

pub returns-clause-before : goal.returns-clause-before
returns-clause-before c = all_before c.loop.keys.items c.loop.below c.args.kvno c.loop.invariant.before

pub returns-clause-few : goal.returns-clause-few
returns-clause-few c = omega (arith, c.loop-test.false, c.loop.invariant.counted, c.requires)

use Rattle.std.proofs.Common.{◌≡◌, ◌+◌, ◌<◌, ◌≤◌, ◌++◌, [], ◌∷◌, length, take, arith, refl, sym, ap, ◌∙◌}
use Rattle.std.proofs.lemmas.List.{take_more}
use Rattle.krb_realm_accounts.specs.Account.{AccountKeyRecord, IsOlder}
use Rattle.krb_realm_accounts.proofs.OlderKeys.{all_before, all_falling, one_before, one_falling, risen}
use Rattle.krb_realm_accounts.proofs.account_key.are_falling.Goals as goal

pub loop-own-init : goal.loop-own-init
loop-own-init c = record { value = refl; before = λ more are. are }

pub loop-own-preserved : goal.loop-own-preserved
loop-own-preserved c =
    let keys = c.args.keys.now in
    let i = c.loop-own.own-index in
    let own = c.own-item.result in
    let less : own.kvno < c.loop-own.below = omega (arith, c.kvno.ensures.value, c.if-below-kvno.false) in
    let older : IsOlder c.loop-own.below own = record { counts = c.is_whole.ensures.counts; less = less; sized = c.is_whole.ensures.sized } in
    let more : take (i + 1) keys ≡ take i keys ++ own ∷ [] = take_more keys i own c.loop-own-test.true ∙ ap (λ (n : AccountKeyRecord). take i keys ++ n ∷ []) (sym c.own-item.is) in
    record {
      value = one_falling keys i own c.loop-own.below _ c.args.kvno c.loop-own-test.true c.own-item.is less c.kvno-below.ensures.value c.loop-own.invariant.value;
      before = one_before (take i keys) (take (i + 1) keys) own c.loop-own.below _ c.args.kvno more c.kvno-below.ensures.value older c.loop-own.invariant.before;
    }

pub returns-then-below-kvno-clause-value : goal.returns-then-below-kvno-clause-value
returns-then-below-kvno-clause-value c =
    let above : c.loop-own.below ≤ c.own-item.result.kvno = omega (arith, c.kvno.ensures.value, c.if-below-kvno.true) in
    risen c.args.keys.now c.loop-own.own-index c.own-item.result c.loop-own.below c.args.kvno c.loop-own-test.true c.own-item.is above c.loop-own.invariant.value

pub returns-clause-value : goal.returns-clause-value
returns-clause-value c = all_falling c.args.keys.now c.loop-own.own-index c.loop-own.below c.args.kvno (omega (arith, c.loop-own-test.false)) c.loop-own.invariant.value

pub returns-clause-before : goal.returns-clause-before
returns-clause-before c = λ _. all_before c.args.keys.now c.loop-own.own-index c.loop-own.below c.args.kvno (omega (arith, c.loop-own-test.false)) c.loop-own.invariant.before

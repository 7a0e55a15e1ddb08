use Rattle.std.proofs.Common.{◌≡◌, Bool, subst}
use Rattle.krb_messages.proofs.NamesRead.{IsSplit, split-more, split-none, split-quoted}
use Rattle.krb_messages.proofs.name_reading.split_realm.Goals.{then-quoted, else-quoted+else-octet-eq64}
use Rattle.krb_messages.proofs.name_reading.split_realm.Goals as goal

pub loop-index-init : goal.loop-index-init
loop-index-init c = split-none c.args.text.now

pub loop-index-preserved : goal.loop-index-preserved
loop-index-preserved c =
    let text = c.args.text.now in
    let i = c.loop-index.index in
    let so_far = λ (quoted : Bool) (is : c.loop-index.quoted ≡ quoted). subst (λ q. IsSplit text i q) is c.loop-index.invariant in
    elim c.if-quoted.branch [
      | then-quoted w ↦ rw w.quoted-is (split-quoted text i 0 c.loop-index-test.true (so_far _ w.if-quoted.true))
      | else-quoted+else-octet-eq64 w ↦ rw w.quoted-is (split-more text i 0 c.loop-index-test.true w.if-octet-eq64.false (so_far _ w.if-quoted.false))
    ]

use Rattle.std.proofs.Common.{◌≡◌, Bool, false, subst, eq-eqb}
use Rattle.std.proofs.lemmas.Bool.{ne_eqb}
use Rattle.krb_messages.specs.NameReading.{components_in, octets, parts_from}
use Rattle.krb_messages.proofs.NamesRead.{IsSoFar, after-backslash, after-other, after-quoted, after-slash, behind-none, octets-more}
use Rattle.krb_messages.proofs.name_reading.parts.Goals.{then-quoted+in_ok-push, else-quoted+then-octet-eq92, else-quoted+else-octet-eq92+then-octet-eq47+in_ok-push-2, else-quoted+else-octet-eq92+else-octet-eq47+else-octet-eq64+in_ok-push-3}
use Rattle.krb_messages.proofs.name_reading.parts.Goals as goal

pub loop-octet-init : goal.loop-octet-init
unfolding components_in
loop-octet-init c = rw (c.new-parts.ensures.items, c.new-part.ensures.items) (behind-none (parts_from false c.args.text.now))

pub loop-octet-preserved : goal.loop-octet-preserved
loop-octet-preserved c =
    let text = c.args.text.now in
    let i = c.loop-octet.octet-index in
    let done = octets c.loop-octet.parts.items in
    let part = c.loop-octet.part.items in
    let so_far = λ (quoted : Bool) (is : c.loop-octet.quoted ≡ quoted). subst (λ q. IsSoFar text i done part q) is c.loop-octet.invariant in
    elim c.if-quoted.branch [
      | then-quoted+in_ok-push w ↦ rw (w.parts-is, w.part-is, w.quoted-is, w.in_ok-push.ensures.items, w.unquoted.ensures)
          (after-quoted text i 0 done part c.loop-octet-test.true (so_far _ w.if-quoted.true))
      | else-quoted+then-octet-eq92 w ↦ rw (w.parts-is, w.part-is, w.quoted-is)
          (after-backslash text i 0 done part c.loop-octet-test.true (eq-eqb _ _ w.if-octet-eq92.true) (so_far _ w.if-quoted.false))
      | else-quoted+else-octet-eq92+then-octet-eq47+in_ok-push-2 w ↦
          rw (w.parts-is, w.part-is, w.quoted-is, w.if-quoted.false, w.in_ok-push-2.ensures.items, w.replace.ensures.value, w.replace.ensures.after, w.new.ensures.items, octets-more c.loop-octet.parts.items c.loop-octet.part)
          (after-slash text i 0 done part c.loop-octet-test.true (ne_eqb _ _ w.if-octet-eq92.false) (eq-eqb _ _ w.if-octet-eq47.true) (so_far _ w.if-quoted.false))
      | else-quoted+else-octet-eq92+else-octet-eq47+else-octet-eq64+in_ok-push-3 w ↦
          rw (w.parts-is, w.part-is, w.quoted-is, w.if-quoted.false, w.in_ok-push-3.ensures.items)
          (after-other text i 0 done part c.loop-octet-test.true (ne_eqb _ _ w.if-octet-eq92.false) (ne_eqb _ _ w.if-octet-eq47.false) (ne_eqb _ _ w.if-octet-eq64.false) (so_far _ w.if-quoted.false))
    ]

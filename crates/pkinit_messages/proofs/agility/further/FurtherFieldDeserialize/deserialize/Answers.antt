use Rattle.std.proofs.Common.{[], ap, sym, ◌∙◌, inr, append-nil}
use Rattle.std.proofs.lemmas.Bool.{false≢true}
use Rattle.asn1_codec.specs.Reading.{IsSpelling, IsElement}
use Rattle.asn1_codec.proofs.Chain.{at-exit, refused-as, refused-own, refused-known, refused-unread}
use Rattle.picky_asn1_der.proofs.ChoiceLemmas.{spelled_octets}
use Rattle.pkinit_messages.specs.Further.{further_tree}
use Rattle.pkinit_messages.proofs.FurtherLemmas.{further_next}
use Rattle.pkinit_messages.proofs.agility.further.FurtherFieldDeserialize.deserialize.Goals as goal

pub returns-in_err-first : goal.returns-in_err-first
returns-in_err-first g c =
    at-exit _ _ _ _ c.from_residual.ensures.1
    (refused-as _ _ _ _ _ c.in_err-first.ensures (λ bytes p. spelled_octets further_tree bytes p))

pub returns-then-not-is_further : goal.returns-then-not-is_further
returns-then-not-is_further g c =
    let looked = c.in_ok-first.ensures.0 in
    let after = c.refuse.ensures.after in
    refused-own (IsSpelling further_tree) c.args.from.now _ _ _ looked.sound_before (ap (λ r. r.failed) after)
    (ap (λ r. r.faults) after ∙ looked.faults) (ap (λ r. r.through) after ∙ looked.same) c.refuse.ensures.fault tt
    (inr (λ bytes rest p left within.
    let next = further_next c.args.from.now c.in_ok-first.first c.in_ok-first.ensures.1 bytes rest p left in
    absurd (false≢true (sym c.if-not-is_further.true ∙ c.is_further.ensures ∙ next.0))))

pub returns-in_err-content : goal.returns-in_err-content
returns-in_err-content g c =
    at-exit _ _ _ _ c.from_residual-in_err-content.ensures.1
    (refused-known (IsSpelling further_tree) (IsElement c.in_ok-first.first) c.args.from.now _ _
    (refused-unread (IsElement c.in_ok-first.first) c.args.from.now _ _ _ c.in_ok-first.ensures.0 c.in_err-content.ensures)
    (λ bytes rest p left within.
    let next = further_next c.args.from.now c.in_ok-first.first c.in_ok-first.ensures.1 bytes rest p left in
    (bytes, [], next.1, sym (append-nil bytes))))

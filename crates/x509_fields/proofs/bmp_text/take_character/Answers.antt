use Rattle.std.proofs.Common.{◌≡◌, ◌∷◌, ap, ◌∙◌, sym}
use Rattle.x509_fields.specs.DirectoryStrings.{bmp_characters}
use Rattle.x509_fields.proofs.BmpLemmas.{no_characters, pair_first, lone_first, lone_last}
use Rattle.x509_fields.proofs.bmp_text.take_character.Goals as goal

pub returns-in_err-unit : goal.returns-in_err-unit
returns-in_err-unit c = rw c.from_residual.ensures (no_characters c.args.octets.now c.in_err-unit.ensures)

pub returns-then-is_pair : goal.returns-then-is_pair
returns-then-is_pair c =
    pair_first c.args.octets.now c.in_ok-unit.rest.now c.in-Some.further.now c.in_ok-unit.unit c.in-Some.second c.in_ok-unit.ensures c.in-Some.ensures (sym c.is_pair.ensures ∙ c.if-is_pair.true)
    ∙ ap (λ character. character ∷ bmp_characters c.in-Some.further.now) (sym c.pair_character.ensures)

pub returns : goal.returns
returns c =
    let alone : bmp_characters c.args.octets.now ≡ _ ∷ bmp_characters c.in_ok-unit.rest.now = elim c.match-take_unit.branch [
      | goal.in-Some+else-is_pair w ↦
          lone_first c.args.octets.now c.in_ok-unit.rest.now w.in-Some.further.now c.in_ok-unit.unit w.in-Some.second c.in_ok-unit.ensures w.in-Some.ensures (sym w.is_pair.ensures ∙ w.if-is_pair.false)
      | goal.in_default w ↦ lone_last c.args.octets.now c.in_ok-unit.rest.now c.in_ok-unit.unit c.in_ok-unit.ensures w.in_default.ensures
    ] in
    alone ∙ ap (λ character. character ∷ bmp_characters c.in_ok-unit.rest.now) (sym c.lone_character.ensures)

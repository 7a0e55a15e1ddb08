use Rattle.std.proofs.Common.{◌≡◌, ℕ, ◌+◌, ◌-◌, length, replicate, refl, sym, ap, ◌∙◌, arith, [], ◌∷◌}
use Rattle.std.proofs.lemmas.List.{length-append, length-drop, length-take}
use Rattle.public_key_cryptography.proofs.Pieces.{written, length-third, pieces-are}
use Rattle.public_key_cryptography.proofs.encoding.pad.Goals as goal

pub returns : goal.returns
returns c =
    let front_is : c.copy_from_slice.new.self ≡ 0 ∷ 1 ∷ [] = c.copy_from_slice.ensures.after in
    let front_len : length c.copy_from_slice.new.self ≡ 2 = ap length front_is in
    let ahead_len : length c.copy_from_slice-2.new.self ≡ length c.args.octets.now - length c.args.digest.now - (length c.args.octets.now - length c.args.digest.now - length c.args.ahead.now) = omega (arith, ap length c.copy_from_slice-2.ensures.after) in
    let last_len : length c.copy_from_slice-3.new.self ≡ length c.args.octets.now - (length c.args.octets.now - length c.args.digest.now) = omega (arith, ap length c.copy_from_slice-3.ensures.after) in
    let middle_len : length c.fill.new.octets ≡ length c.args.octets.now - length c.args.digest.now - length c.args.ahead.now - 2 = omega (arith, c.fill.auto.octets, length-take {A = ℕ}, length-drop {A = ℕ}, length-append {A = ℕ}) in
    let middle_is : c.fill.new.octets ≡ replicate (length c.args.octets.now - (length c.args.ahead.now + length c.args.digest.now) - 2) 255 = c.fill.ensures ∙ ap (λ k. replicate k 255) (sym c.fill.auto.octets ∙ middle_len ∙ (let e : length c.args.octets.now - length c.args.digest.now - length c.args.ahead.now - 2 ≡ length c.args.octets.now - (length c.args.ahead.now + length c.args.digest.now) - 2 = omega arith in e)) in
    let third = length-third c.args.octets.now c.copy_from_slice.new.self c.fill.new.octets c.copy_from_slice-2.new.self (length c.args.octets.now) (length c.args.octets.now - length c.args.digest.now - length c.args.ahead.now) (length c.args.octets.now - length c.args.digest.now) (length c.args.octets.now - length c.args.digest.now - length c.args.ahead.now - 2) (length c.args.octets.now - length c.args.digest.now - (length c.args.octets.now - length c.args.digest.now - length c.args.ahead.now)) refl (omega arith) (omega arith) (omega arith) front_len middle_len ahead_len (omega arith) (omega arith) in
    written c.args.octets.now c.copy_from_slice.new.self c.fill.new.octets c.copy_from_slice-2.new.self c.copy_from_slice-3.new.self (length c.args.octets.now) (length c.args.octets.now - length c.args.digest.now - length c.args.ahead.now) (length c.args.octets.now - length c.args.digest.now) _ _ _ refl (omega arith) (omega arith) (omega arith) front_len middle_len ahead_len last_len (omega arith) (omega arith) (omega (arith, third))
    ∙ pieces-are _ _ _ _ c.args.ahead.now c.args.digest.now (length c.args.octets.now) front_is middle_is c.copy_from_slice-2.ensures.after c.copy_from_slice-3.ensures.after

use Rattle.std.proofs.Common.{◌≡◌, ℕ, Bool, true, ◌&&◌, ◌^◌, ◌%◌, nat_eq, nat_lt, length, sym, ap, ◌∙◌, arith, rules}
use Rattle.std.specs.Str.{bytes_eq}
use Rattle.std.proofs.lemmas.Bool.Decides.{Decides-eqb}
use Rattle.std.proofs.lemmas.List.{length-take, length-drop, length-replicate}
use Rattle.modular_arithmetic.specs.Naturals.{i2osp, os2ip}
use Rattle.public_key_cryptography.specs.Pkcs1.{encoded, recovered, verifies}
use Rattle.public_key_cryptography.proofs.public_key.PublicKey.verifies.Goals as goal

all_three : (a b r x : Bool) → a ≡ true → b ≡ true → r ≡ x → r ≡ (a && b && x)
all_three a b r x p q h = h ∙ sym (ap (λ t. t && b && x) p ∙ ap (λ t. t && x) q)

pub returns : goal.returns
unfolding verifies
returns c =
    let long : nat_eq (length c.args.signature.now) c.args.self.now.len ≡ true = (Decides-eqb (length c.args.signature.now) c.args.self.now.len).1 (omega arith) in
    let below : nat_lt (os2ip c.args.signature.now) c.args.self.now.modulus.value ≡ true = sym c.exceeds.ensures ∙ (let kept : c.exceeds.result ≡ true = search rules in kept) in
    let first : length c.power.new.out ≡ c.args.self.now.len = omega (arith, c.power.auto.out, length-take {A = ℕ}, length-drop {A = ℕ}, length-replicate {A = ℕ}) in
    let second : length c.encode.new.octets ≡ c.args.self.now.len = omega (arith, c.encode.auto.octets, length-take {A = ℕ}, length-drop {A = ℕ}, length-replicate {A = ℕ}) in
    let recovered_is : c.power.new.out ≡ recovered c.args.self.now c.args.signature.now = c.power.ensures ∙ ap (λ k. i2osp k (os2ip c.args.signature.now ^ c.args.self.now.exponent % c.args.self.now.modulus.value)) (sym c.power.auto.out ∙ first) in
    let encoded_is : c.encode.new.octets ≡ encoded c.args.self.now.len c.args.hash c.args.message.now = c.encode.ensures ∙ ap (λ k. encoded k c.args.hash c.args.message.now) (sym c.encode.auto.octets ∙ second) in
    all_three _ _ _ _ long below (c.eq.ensures ∙ ap (λ xs. bytes_eq xs c.encode.new.octets) recovered_is ∙ ap (λ xs. bytes_eq (recovered c.args.self.now c.args.signature.now) xs) encoded_is)

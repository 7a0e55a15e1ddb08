use Rattle.std.proofs.Common.{◌≡◌, List, ℕ, length, ap, ◌∙◌, arith}
use Rattle.krb_crypto.specs.Suites.{cipher_seed_size}
use Rattle.pkinit_messages.specs.Contexts.{context_of}
use Rattle.pkinit_messages.specs.DerivedKeys.{derived_seed}
use Rattle.pkinit_messages.proofs.KeyLemmas.{derived_seed-sized}
use Rattle.pkinit_messages.proofs.agility.derived.derived_key.Goals as goal

pub random_to_key-requires : goal.random_to_key-requires
random_to_key-requires c =
    let seed : c.deref.result.now ≡ derived_seed c.args.suite c.args.kdf c.args.secret.items (context_of c.args.context.now) = c.deref.ensures.value ∙ c.in_ok-seed.ensures in
    let sized : length c.deref.result.now ≡ cipher_seed_size c.args.suite =
    ap (λ (octets : List ℕ). length octets) seed ∙ derived_seed-sized c.args.suite c.args.kdf c.args.secret.items (context_of c.args.context.now) in
    omega (arith, sized)

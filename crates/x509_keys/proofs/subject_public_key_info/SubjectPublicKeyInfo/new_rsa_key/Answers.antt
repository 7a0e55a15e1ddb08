use Rattle.std.proofs.Common.{ℕ, List, sym, subst}
use Rattle.std.specs.Prelude.{IsTrue}
use Rattle.x509_keys.specs.PublicKeys.{is_key_of, rsa_key_of}
use Rattle.x509_keys.specs.declared.public_key.PublicKey.TheVariants as kind
use Rattle.x509_keys.proofs.subject_public_key_info.SubjectPublicKeyInfo.new_rsa_key.Goals as goal

pub invariant_of-result : goal.invariant_of-result
invariant_of-result c = record {
  of_its_algorithm =
      subst (λ (arcs : List ℕ). IsTrue (is_key_of arcs (kind.Rsa (record { 0 = record { modulus = c.args.modulus; public_exponent = c.args.public_exponent } }))))
      (sym c.in_ok-algorithm.ensures.0) (rsa_key_of (record { 0 = record { modulus = c.args.modulus; public_exponent = c.args.public_exponent } }));
}

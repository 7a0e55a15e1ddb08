use Rattle.std.proofs.Common.{rules, ◌≢◌}
use Rattle.x509_keys.specs.contracts.private_key_info.PrivateKeyInfoSpelled.TheImpl as info
use Rattle.x509_spelling.specs.declared.fault.X509Fault.TheVariants as x509
use Rattle.x509_certificates.proofs.Keys.{no_memory, pkcs1_key, rsa_key}
use Rattle.x509_certificates.proofs.files.key_of.Goals as goal

pub returns-in-Ok : goal.returns-in-Ok
returns-in-Ok c = rsa_key info.ghosts.spells _ c.args.found.now _ c.in-Ok.info c.rsa_key_of-key.result c.as_slice.ensures.value c.in-Ok.ensures.value c.rsa_key_of-key.ensures

pub returns-else-eq : goal.returns-else-eq
returns-else-eq c =
    let other : c.in-Err.fault ≢ x509.Memory = search rules in
    pkcs1_key info.ghosts.spells _ c.args.found.now _ c.in-Err.fault c.pkcs1_key_of.result c.as_slice.ensures.value c.in-Err.ensures.value other c.pkcs1_key_of.ensures

pub returns-then-eq : goal.returns-then-eq
returns-then-eq c = no_memory info.ghosts.spells _ c.args.found.now

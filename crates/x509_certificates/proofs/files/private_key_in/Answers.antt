use Rattle.std.proofs.Common.{inl}
use Rattle.x509_keys.specs.contracts.private_key_info.PrivateKeyInfoSpelled.TheImpl as info
use Rattle.x509_certificates.proofs.Keys.{key_held}
use Rattle.x509_certificates.proofs.files.private_key_in.Goals as goal

pub returns-in-Ok : goal.returns-in-Ok
returns-in-Ok c = key_held info.ghosts.spells _ c.args.file.now c.in-Ok.found c.key_of.result c.in-Ok.ensures c.key_of.ensures

pub returns-in-Err : goal.returns-in-Err
returns-in-Err c = inl c.in-Err.ensures

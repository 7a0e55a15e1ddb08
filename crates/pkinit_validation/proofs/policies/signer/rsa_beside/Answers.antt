use Rattle.std.proofs.Common.{Some}
use Rattle.x509_oids.specs.Identifiers as oids
use Rattle.pkinit_validation.specs.GeneralTrust.{has_null_sha1, has_null_sha384, has_null_sha512}
use Rattle.pkinit_validation.proofs.PolicySignerLemmas.{made_rsa}
use Rattle.pkinit_validation.proofs.policies.signer.rsa_beside.Goals as goal

pub returns-in_ok-sha1-in-Sha1 : goal.returns-in_ok-sha1-in-Sha1
returns-in_ok-sha1-in-Sha1 c = rw c.in-Sha1.is (λ i. Some (made_rsa oids.sha1_with_rsa_encryption has_null_sha1 c.in_ok-sha1-in-Sha1.sha1 c.in_ok-sha1-in-Sha1.ensures i))

pub returns-in_ok-sha384-in-Sha384 : goal.returns-in_ok-sha384-in-Sha384
returns-in_ok-sha384-in-Sha384 c = rw c.in-Sha384.is (λ i. Some (made_rsa oids.sha384_with_rsa_encryption has_null_sha384 c.in_ok-sha384-in-Sha384.sha384 c.in_ok-sha384-in-Sha384.ensures i))

pub returns-in_ok-sha512-in-Sha512 : goal.returns-in_ok-sha512-in-Sha512
returns-in_ok-sha512-in-Sha512 c = rw c.in-Sha512.is (λ i. Some (made_rsa oids.sha512_with_rsa_encryption has_null_sha512 c.in_ok-sha512-in-Sha512.sha512 c.in_ok-sha512-in-Sha512.ensures i))

use Rattle.x509_keys.proofs.private_key_fields.PrivateKeyFieldsSerialize.serialize.Goals as goal

pub returns-in-Rsa : goal.returns-in-Rsa
returns-in-Rsa g c = rw c.in-Rsa.is c.list.ensures

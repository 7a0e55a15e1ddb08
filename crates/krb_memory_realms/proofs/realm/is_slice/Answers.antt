use Rattle.krb_memory_realms.proofs.realm.is_slice.Goals as goal

pub returns-clause-bytes : goal.returns-clause-bytes
returns-clause-bytes c = λ i. (c.type_inv.octets i).fits

use Rattle.krb_realm_files.proofs.Said.{realm_fault, realm_is}
use Rattle.krb_realm_files.proofs.account_file.realm_of.Goals as goal

pub returns-clause-said : goal.returns-clause-said
returns-clause-said g c = λ bytes known. realm_is (g.F.ReadAt.fails c.args.file.now) bytes c.realm_within.result (c.realm_within.ensures bytes known)

pub returns-clause-fault : goal.returns-clause-fault
returns-clause-fault g c =
    realm_fault (g.F.ReadAt.fails c.args.file.now) (g.F.ReadAt.content c.args.file.now) c.realm_within.result
    (λ bytes known. realm_is (g.F.ReadAt.fails c.args.file.now) bytes c.realm_within.result (c.realm_within.ensures bytes known))

use Rattle.krb_realm_files.proofs.Said.{held_account, held_fault}
use Rattle.krb_realm_files.proofs.account_file.AccountFileLookup.account.Goals as goal

pub returns-clause-account : goal.returns-clause-account
returns-clause-account g c = λ all known.
    held_account (g.F.ReadAt.fails c.args.self.now.file) known.0 all c.args.name.now c.account_in.result known.2 (c.account_in.ensures known.0 known.1)

pub returns-clause-fault : goal.returns-clause-fault
returns-clause-fault g c =
    held_fault (g.F.ReadAt.fails c.args.self.now.file) (g.F.ReadAt.content c.args.self.now.file) c.args.name.now c.account_in.result c.account_in.ensures

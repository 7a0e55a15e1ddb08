use Rattle.krb_realm_files.proofs.file_pkinit.FilePkinitPkinit.judge.Goals as goal

pub returns-in-Means : goal.returns-in-Means
returns-in-Means c = rw c.in-Means.is c.judge_by.ensures

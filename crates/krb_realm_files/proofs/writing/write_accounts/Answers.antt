use Rattle.std.proofs.lemmas.Result.{err_from_is_err_and}
use Rattle.krb_realm_files.proofs.Unwritten.{no_file, no_record}
use Rattle.krb_realm_files.proofs.Written.{are_named}
use Rattle.krb_realm_files.proofs.writing.write_accounts.Goals as goal

pub returns-in_err-records-clause-refusal : goal.returns-in_err-records-clause-refusal
returns-in_err-records-clause-refusal c =
    let p = err_from_is_err_and c.from_residual.result c.from_residual.ensures.1 in
    rw (p.1, p.2) (no_record c.args.realm.now c.args.accounts.now c.in_err-records.field-0.0 c.in_err-records.ensures.refusal)

pub returns-in_err-bytes-clause-refusal : goal.returns-in_err-bytes-clause-refusal
returns-in_err-bytes-clause-refusal c =
    let p = err_from_is_err_and c.from_residual-in_err-bytes.result c.from_residual-in_err-bytes.ensures.1 in
    rw (p.1, p.2) (no_file c.args.realm.now c.args.accounts.now c.in_ok-records.records.items c.in_err-bytes.field-0.0 c.in_ok-records.ensures.made c.in_err-bytes.ensures.refusal)

pub returns-clause-names : goal.returns-clause-names
returns-clause-names c = are_named c.args.accounts.now c.in_ok-records.records.items c.in_ok-records.ensures.made

pub returns-clause-accounts : goal.returns-clause-accounts
returns-clause-accounts c = c.in_ok-bytes.ensures.accounts c.args.accounts.now c.in_ok-records.ensures.made

pub returns-clause-realm : goal.returns-clause-realm
returns-clause-realm c = c.in_ok-bytes.ensures.realm c.args.accounts.now c.in_ok-records.ensures.made

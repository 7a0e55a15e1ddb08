use Rattle.std.proofs.Common.{List, Ok, ap, ◌∙◌}
use Rattle.std.proofs.lemmas.Result.{err_from_is_err_and}
use Rattle.cdb.specs.Records.{answer}
use Rattle.cdb.specs.declared.records.Record.{Record}
use Rattle.krb_realm_files.proofs.Unwritten.{no_database, no_realm}
use Rattle.krb_realm_files.proofs.Written.{says_accounts, says_realm}
use Rattle.krb_realm_files.proofs.writing.write_records.Goals as goal

pub returns-in_err-own-clause-refusal : goal.returns-in_err-own-clause-refusal
returns-in_err-own-clause-refusal c =
    let p = err_from_is_err_and c.from_residual.result c.from_residual.ensures.1 in
    rw (p.1, p.2) (no_realm c.args.realm.now c.args.records.items c.in_err-own.field-0.0 c.in_err-own.ensures.refusal)

pub returns-in_err-bytes-clause-refusal : goal.returns-in_err-bytes-clause-refusal
returns-in_err-bytes-clause-refusal c =
    let p = err_from_is_err_and c.from_residual-in_err-bytes.result c.from_residual-in_err-bytes.ensures.1 in
    rw (p.1, p.2) (no_database c.args.realm.now c.args.records.items c.deref.result.now c.in_ok-own.own c.in_err-bytes.field-0.0 c.in_ok-own.ensures.made
    (c.deref.ensures.value ∙ c.in_ok-push.ensures.items) c.in_err-bytes.ensures.refusal)

pub returns-clause-accounts : goal.returns-clause-accounts
returns-clause-accounts c = λ accounts are.
    says_accounts c.args.realm.now c.in_ok-own.own c.in_ok-own.ensures.made accounts c.args.records.items c.in_ok-bytes.bytes.items are
    (λ key. c.in_ok-bytes.ensures.answers key ∙ ap (λ (r : List Record). Ok (answer r key)) (c.deref.ensures.value ∙ c.in_ok-push.ensures.items))

pub returns-clause-realm : goal.returns-clause-realm
returns-clause-realm c = λ accounts are.
    says_realm c.args.realm.now c.in_ok-own.own c.in_ok-own.ensures.made accounts c.args.records.items c.in_ok-bytes.bytes.items are
    (λ key. c.in_ok-bytes.ensures.answers key ∙ ap (λ (r : List Record). Ok (answer r key)) (c.deref.ensures.value ∙ c.in_ok-push.ensures.items))

use Rattle.std.proofs.Common.{◌≡◌, ◌⊎◌, ◌+◌, ◌∷◌, ◌++◌, false, List, [], take, ap, sym, subst, ◌∙◌}
use Rattle.std.proofs.lemmas.List.{take_more}
use Rattle.std.proofs.lemmas.Result.{err_from_is_err_and}
use Rattle.cdb.specs.declared.writing.WriteFault.TheVariants.{Memory, Unsound}
use Rattle.krb_realm_accounts.specs.Names.{are_components}
use Rattle.picky_asn1.specs.Bytes.{Bytes}
use Rattle.krb_realm_files.specs.Named.{IsRecordOf}
use Rattle.krb_realm_files.specs.declared.writing.NamedAccount.{NamedAccount}
use Rattle.krb_realm_files.proofs.Unwritten.{unnamed}
use Rattle.krb_realm_files.proofs.Written.{one_more}
use Rattle.krb_realm_files.proofs.writing.records_of.Goals as goal

pub loop-one-preserved : goal.loop-one-preserved
loop-one-preserved c =
    let more : take (c.loop-one.one-index + 1) c.args.accounts.now ≡ take c.loop-one.one-index c.args.accounts.now ++ c.one-item.result ∷ []
    = take_more c.args.accounts.now c.loop-one.one-index c.one-item.result c.loop-one-test.true ∙ ap (λ (n : NamedAccount). take c.loop-one.one-index c.args.accounts.now ++ n ∷ []) (sym c.one-item.is) in
    rw (more, c.in_ok-push.ensures.items)
    (one_more (take c.loop-one.one-index c.args.accounts.now) c.loop-one.records.items c.one-item.result c.in_ok-own.own c.loop-one.invariant
    (subst (λ (name : List Bytes). IsRecordOf name c.one-item.result.account c.in_ok-own.own) c.deref.ensures.value c.in_ok-own.ensures.made))

pub returns-in_err-own-clause-refusal : goal.returns-in_err-own-clause-refusal
returns-in_err-own-clause-refusal c =
    let p = err_from_is_err_and c.from_residual.result c.from_residual.ensures.1 in
    rw (p.1, p.2) (unnamed c.args.accounts.now c.loop-one.one-index c.one-item.result c.in_err-own.field-0.0 c.loop-one-test.true c.one-item.is
    (subst (λ (name : List Bytes). (c.in_err-own.field-0.0 ≡ Memory) ⊎ ((c.in_err-own.field-0.0 ≡ Unsound) × (are_components name ≡ false))) c.deref.ensures.value c.in_err-own.ensures.refusal))

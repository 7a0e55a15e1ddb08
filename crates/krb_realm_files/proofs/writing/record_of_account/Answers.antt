use Rattle.std.proofs.Common.{◌≡◌, false, inr, refl, rules}
use Rattle.krb_realm_accounts.specs.Names.{are_components}
use Rattle.krb_realm_accounts.specs.Packed.{fit}
use Rattle.krb_realm_files.proofs.Fitting.{unfit}
use Rattle.krb_realm_files.proofs.writing.record_of_account.Goals as goal

pub returns-then-not-pack-clause-refusal : goal.returns-then-not-pack-clause-refusal
returns-then-not-pack-clause-refusal c =
    let none : fit c.args.name.now ≡ false = search rules in
    inr (refl, unfit c.args.name.now (are_components c.args.name.now) refl none)

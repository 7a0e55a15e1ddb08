use Rattle.std.proofs.Common.{◌≡◌, rules}
use Rattle.krb_crypto.specs.Sealing.{password_key_of}
use Rattle.picky_asn1.specs.Bytes.{Bytes}
use Rattle.krb_password_changes.specs.NewPasswords.{salt_of}
use Rattle.krb_password_changes.proofs.Settled.{has-password, settled, unsettled}
use Rattle.krb_password_changes.proofs.setting.set_password.Goals as goal

pub returns-in-Ok-clause-ok : goal.returns-in-Ok-clause-ok
returns-in-Ok-clause-ok c =
    let salt : Bytes = c.from.result in
    let salted : c.from.result ≡ salt_of c.args.granted.now = search rules in
    let keyed : c.in_ok-key.key ≡ record { suite = c.args.suite; bytes = password_key_of c.args.suite c.args.granted.now.password c.from.result } = search rules in
    has-password c.args.suite c.args.granted.now c.args.lines.now.items c.change_key.new.lines.items c.as_slice-name.result.now c.in_ok-key.key salt
    c.as_slice-name.ensures salted keyed c.in-Ok.ensures.ok

pub returns-in-Ok-clause-judged : goal.returns-in-Ok-clause-judged
returns-in-Ok-clause-judged c =
    settled _ _ c.args.granted.now (rw c.as_slice-name.ensures at c.in-Ok.ensures.unknown) (rw c.as_slice-name.ensures at c.in-Ok.ensures.spent)

pub returns-in-Err-clause-refused : goal.returns-in-Err-clause-refused
returns-in-Err-clause-refused c =
    unsettled _ _ c.args.granted.now _ (rw c.as_slice-name.ensures at c.in-Err.ensures.unknown) (rw c.as_slice-name.ensures at c.in-Err.ensures.spent) c.in-Err.ensures.refusal

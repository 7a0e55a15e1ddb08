use Rattle.std.proofs.Common.{◌≡◌, ◌∙◌}
use Rattle.asn1_der.specs.Tree.{der}
use Rattle.krb_crypto.specs.Suites.{cipher_confounder_size}
use Rattle.krb_password_changes.specs.Privates.{enc_krb_priv_part_tree}
use Rattle.krb_password_changes.specs.Replies.{private_confounder, reply_part}
use Rattle.krb_password_changes.proofs.reply.private_bytes.Goals as goal

pub returns : goal.returns
returns c =
    let suite = c.args.key.now.suite in
    let confounder : c.confounder_at-confounder.result.now ≡ private_confounder (cipher_confounder_size suite) c.args.words.now = rw c.suite.ensures at c.confounder_at-confounder.ensures.part in
    let plain : c.deref.result.now ≡ der (enc_krb_priv_part_tree (reply_part c.args.octets.now c.args.address.now)) = c.deref.ensures.value ∙ c.in_ok-plain.ensures in
    record { part = c.in_ok-part.part; sealed = rw (confounder, plain) at c.in_ok-part.ensures; encoding = c.in_ok-bytes.ensures }

use Rattle.std.proofs.Common.{◌≡◌, ◌∙◌}
use Rattle.asn1_der.specs.Tree.{der}
use Rattle.krb_crypto.specs.Suites.{cipher_confounder_size}
use Rattle.krb_messages.specs.RandomBytes.{ap_reply_confounder}
use Rattle.krb_messages.specs.Messages.{enc_ap_rep_part_tree}
use Rattle.krb_service.specs.ApReply.{ap_rep_part_with}
use Rattle.krb_service.proofs.reply.ap_reply.Goals as goal

pub returns : goal.returns
returns c =
    let suite = c.args.key.now.suite in
    let confounder : c.confounder_at-confounder.result.now ≡ ap_reply_confounder (cipher_confounder_size suite) c.args.words.now = rw c.suite-2.ensures at c.confounder_at-confounder.ensures.part in
    let told : c.in_ok-plain.plain.items ≡ der (enc_ap_rep_part_tree (ap_rep_part_with c.args.fields suite c.args.words.now c.args.authenticator.now)) = rw c.suite.ensures at c.in_ok-plain.ensures in
    let plain : c.deref.result.now ≡ der (enc_ap_rep_part_tree (ap_rep_part_with c.args.fields suite c.args.words.now c.args.authenticator.now)) = c.deref.ensures.value ∙ told in
    record { part = c.in_ok-part.part; sealed = rw (confounder, plain) at c.in_ok-part.ensures; encoding = c.in_ok-bytes.ensures }

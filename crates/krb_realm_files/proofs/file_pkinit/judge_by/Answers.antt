use Rattle.krb_kdc_exchanges.specs.PkinitCalls.{agreed_as, call_of}
use Rattle.pkinit_validation.specs.Trust.{trust_of}
use Rattle.krb_realm_files.proofs.Sources.{by_means}
use Rattle.krb_realm_files.proofs.file_pkinit.judge_by.Goals as goal

pub returns : goal.returns
returns c =
    by_means c.args.policy c.args.means.now (trust_of c.pkinit-own.result.anchor c.pkinit-own.result.certificate) c.pkinit-own.result.keys.now (call_of c.args.call.now) c.args.padata.now
    (agreed_as c.judge.result) c.pkinit-own.ensures.trust c.pkinit-own.ensures.keys c.judge.ensures

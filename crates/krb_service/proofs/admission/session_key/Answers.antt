use Rattle.std.proofs.Common.{ap, is_some, sym, ◌∙◌}
use Rattle.krb_service.proofs.SessionKeys.{found_session}
use Rattle.krb_service.proofs.admission.session_key.Goals as goal

pub unwrap-requires : goal.unwrap-requires
unwrap-requires c = ap is_some (found_session c.args.presented.now c.key_of.result c.key_of.ensures c.requires)

pub returns : goal.returns
returns c =
    let found = sym c.unwrap.ensures ∙ found_session c.args.presented.now c.key_of.result c.key_of.ensures c.requires in cc (found)

use Rattle.std.proofs.Common.{false, map, ap, ◌∙◌}
use Rattle.krb_commands.specs.Configuration.{realm_below}
use Rattle.krb_commands.proofs.realms.default_realm_in.Goals as goal

pub returns : goal.returns
returns c = c.realm_below.ensures ∙ ap (realm_below false) (ap (map (λ line. line.now)) c.as_slice.ensures.value ∙ c.in_ok-lines.ensures)

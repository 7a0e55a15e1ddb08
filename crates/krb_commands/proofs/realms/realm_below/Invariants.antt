use Rattle.std.proofs.Common.{◌≡◌, false, map, drop}
use Rattle.krb_commands.specs.Configuration.{realm_below}
use Rattle.krb_commands.proofs.realms.realm_below.Given as goal

-- what the lines that are left say is what all say
abbrev pub invariant-loop-line : goal.invariant-loop-line
invariant-loop-line l = realm_below l.is_inside (map (λ line. line.now) (drop l.line-index l.lines)) ≡ realm_below false (map (λ line. line.now) l.lines)

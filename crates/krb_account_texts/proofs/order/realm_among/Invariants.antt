use Rattle.std.proofs.Common.{◌≡◌, drop}
use Rattle.krb_account_texts.specs.Order.{realm_among}
use Rattle.krb_account_texts.proofs.order.realm_among.Given as goal

-- no realm's line is among those so far
abbrev pub invariant-loop-line : goal.invariant-loop-line
invariant-loop-line l = realm_among l.lines ≡ realm_among (drop l.line-index l.lines)

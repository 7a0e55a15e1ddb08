use Rattle.std.proofs.Common.{◌≡◌, take}
use Rattle.std.specs.String.{string_bytes}
use Rattle.krb_account_texts.specs.FurtherLines.{former_text}
use Rattle.krb_account_texts.proofs.further.former_text.Given as goal

-- the keys so far
abbrev pub invariant-loop-own : goal.invariant-loop-own
invariant-loop-own l = string_bytes l.text ≡ former_text (take l.own-index l.keys)

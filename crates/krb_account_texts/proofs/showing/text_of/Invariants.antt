use Rattle.std.proofs.Common.{◌≡◌, map, take}
use Rattle.std.specs.String.{string_bytes}
use Rattle.krb_account_texts.specs.Lines.{text_of, written}
use Rattle.krb_account_texts.proofs.showing.text_of.Given as goal

-- the lines so far
abbrev pub invariant-loop-line : goal.invariant-loop-line
invariant-loop-line l = string_bytes l.text ≡ text_of (map written (take l.line-index l.lines))

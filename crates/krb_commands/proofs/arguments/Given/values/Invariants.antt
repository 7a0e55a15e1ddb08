use Rattle.std.proofs.Common.{◌≡◌, take}
use Rattle.krb_commands.specs.Arguments.{text_pairs, texts, values_of}
use Rattle.krb_commands.proofs.arguments.Given.values.Given as goal

-- the values among the options so far
abbrev pub invariant-loop-name : goal.invariant-loop-name
invariant-loop-name l = texts l.values.items ≡ values_of (text_pairs (take l.name-index l.self.options.items)) l.option

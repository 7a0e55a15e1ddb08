use Rattle.std.proofs.Common.{◌≡◌, drop, map}
use Rattle.std.specs.Prelude.{string_bytes}
use Rattle.std.specs.Option.{option_copied}
use Rattle.krb_commands.specs.Arguments.{parts_after, parts_of, texts}
use Rattle.krb_commands.specs.Given.{parts}
use Rattle.krb_commands.proofs.arguments.given_of.Given as goal

-- the arguments from here on complete the parts that are there
abbrev pub invariant-loop-argument : goal.invariant-loop-argument
invariant-loop-argument l =
    parts_after (texts l.options) (parts l.given) (option_copied l.option) (map string_bytes (drop l.argument-index l.arguments))
    ≡ parts_of (texts l.options) (map string_bytes l.arguments)

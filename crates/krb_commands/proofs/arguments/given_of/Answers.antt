use Rattle.std.proofs.Common.{drop, map, sym, ◌+◌, ◌∙◌}
use Rattle.std.specs.Prelude.{string_bytes}
use Rattle.std.specs.Option.{option_copied}
use Rattle.krb_commands.specs.Arguments.{texts}
use Rattle.krb_commands.specs.Given.{parts}
use Rattle.krb_commands.proofs.Apart.{at_next, if-exit, stops_where}
use Rattle.krb_commands.proofs.arguments.given_of.Goals as goal

pub returns-in_err-option-clause-err : goal.returns-in_err-option-clause-err
returns-in_err-option-clause-err c =
    let place = c.loop-argument.argument-index in
    let rest = map string_bytes (drop (place + 1) c.args.arguments.now) in
    let here = at_next string_bytes (texts c.args.options.now) (parts c.loop-argument.given) (option_copied c.loop-argument.option) c.args.arguments.now place c.argument-item.result c.as_str.result.now
    c.loop-argument-test.true c.argument-item.is c.as_str.ensures.value in
    if-exit _ c.in_err-option.field-0.0 _ c.from_residual.ensures.1 (stops_where _ _ _ (here ∙ c.loop-argument.invariant) (c.in_err-option.ensures.err rest))

pub loop-argument-preserved : goal.loop-argument-preserved
loop-argument-preserved c =
    let place = c.loop-argument.argument-index in
    let rest = map string_bytes (drop (place + 1) c.args.arguments.now) in
    let here = at_next string_bytes (texts c.args.options.now) (parts c.loop-argument.given) (option_copied c.loop-argument.option) c.args.arguments.now place c.argument-item.result c.as_str.result.now
    c.loop-argument-test.true c.argument-item.is c.as_str.ensures.value in
    sym (c.in_ok-option.ensures.ok rest) ∙ here ∙ c.loop-argument.invariant

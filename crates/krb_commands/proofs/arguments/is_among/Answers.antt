use Rattle.std.proofs.Common.{rules, ◌∙◌}
use Rattle.std.specs.Prelude.{nat_eq}
use Rattle.std.specs.Borrow.{Bor}
use Rattle.std.specs.Cmp.Lexicographic.{pointwise}
use Rattle.std.proofs.lemmas.Iterator.{YieldsList-from_slice}
use Rattle.std.proofs.lemmas.Iterator.Search.{any_from_yields_List}
use borrow.Author.Tests.{tests}
use Rattle.krb_commands.specs.Arguments.{Text}
use Rattle.krb_commands.proofs.Apart.{any-texts}
use Rattle.krb_commands.proofs.arguments.is_among.Goals as goal

pub returns : goal.returns
returns c =
    any_from_yields_List (λ (name : Bor Text). pointwise nat_eq name.now c.args.argument.now) _ _ _ c.any.ensures.ran (YieldsList-from_slice c.args.options.now cc) (λ x b q k. search (rules, tests))
    ∙ any-texts c.args.argument.now c.args.options.now

-- What the value of `Given` holds.
use Rattle.krb_commands.specs.Arguments.{Parts, text_pairs, texts}
use Rattle.krb_commands.specs.declared.arguments.Given.{Given}

-- Its options with their values, and its words.
abbrev pub parts : Given → Parts
parts given = record {
  options = text_pairs given.options.items;
  words = texts given.words.items;
}

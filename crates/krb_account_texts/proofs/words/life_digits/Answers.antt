use Rattle.krb_account_texts.specs.Reading.{renewable_mark}
use Rattle.krb_account_texts.proofs.Stripped.{stripped}
use Rattle.krb_account_texts.proofs.words.life_digits.Goals as goal

pub returns : goal.returns
returns c = stripped renewable_mark c.args.word.now c.strip_prefix.result c.strip_prefix.ensures.cases

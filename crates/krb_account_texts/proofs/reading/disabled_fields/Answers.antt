use Rattle.krb_account_texts.specs.Lines.{disabled_mark}
use Rattle.krb_account_texts.proofs.Stripped.{stripped}
use Rattle.krb_account_texts.proofs.reading.disabled_fields.Goals as goal

pub returns : goal.returns
returns c = stripped disabled_mark c.args.text.now c.strip_prefix.result c.strip_prefix.ensures.cases

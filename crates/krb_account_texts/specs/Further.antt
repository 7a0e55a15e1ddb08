-- What was read of the fields that follow a key.
use Rattle.krb_account_texts.specs.Reading.{FurtherRecord}
use Rattle.krb_account_texts.specs.declared.further.Further.{Further}

abbrev pub told_of_further : Further → FurtherRecord
told_of_further further = record { attributes = further.attributes; former = further.former.items }

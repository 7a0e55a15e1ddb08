-- A line of the log: time, entry, and how long the answer took.
use Rattle.std.specs.Prelude.{ℕ, List, ◌++◌, codes, Option, None, Some}
use Rattle.std.specs.Fmt.{decimal}
use Rattle.krb_log.specs.EntryText.{entry_text}
use Rattle.krb_log.specs.Stamps.{stamp_text}
use Rattle.krb_log.specs.declared.entry.Entry.{Entry}
use Rattle.krb_log.specs.declared.stamp.Stamp.{Stamp}

abbrev pub micros_text : Option ℕ → List ℕ
micros_text None = codes "-"
micros_text (Some micros) = decimal micros

-- the line, without its end
abbrev pub line_text : Stamp → Entry → Option ℕ → List ℕ
line_text stamp entry micros = stamp_text stamp.second stamp.microsecond ++ codes " " ++ entry_text entry ++ codes " micros=" ++ micros_text micros

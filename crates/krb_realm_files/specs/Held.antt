-- The file of a value of `AccountFile`.
use Rattle.krb_realm_files.specs.declared.account_file.AccountFile.{AccountFile}

-- The file that it has.
abbrev pub account_file : {F : Type 0} → AccountFile F → F
account_file held = held.file

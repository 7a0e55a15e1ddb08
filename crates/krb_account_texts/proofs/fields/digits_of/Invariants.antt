use Rattle.std.proofs.Common.{◌≡◌, ◌<◌, drop}
use Rattle.krb_account_texts.specs.Reading.{digits_behind}
use Rattle.krb_account_texts.proofs.fields.digits_of.Given as goal

-- the digits behind those that were read
abbrev pub invariant-loop-digit : goal.invariant-loop-digit
invariant-loop-digit l = record { so_far : digits_behind l.number (drop l.digit-index l.digits) ≡ digits_behind 0 l.digits; below : l.number < 4294967296 }

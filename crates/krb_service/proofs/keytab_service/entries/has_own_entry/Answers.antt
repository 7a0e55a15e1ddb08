use Rattle.std.proofs.Common.{is_some, rules, tests, ◌∙◌}
use Rattle.std.proofs.lemmas.Iterator.{YieldsList-from_slice}
use Rattle.std.proofs.lemmas.Iterator.Search.{any_from_yields_List}
use Rattle.krb_file_formats.specs.Entries.{Entry}
use Rattle.krb_service.specs.KeytabEntries.{entry_of}
use Rattle.krb_service.proofs.HasEntry.{some_entry}
use Rattle.krb_service.proofs.keytab_service.entries.has_own_entry.Goals as goal

pub returns : goal.returns
returns c =
    any_from_yields_List (λ (e : Entry). is_some (entry_of c.args.realm.now c.args.name.now e)) _ _ _ c.any.ensures.ran (YieldsList-from_slice c.args.keytab.now cc)
    (λ x b q k. search (rules, tests))
    ∙ some_entry c.args.realm.now c.args.name.now c.args.keytab.now

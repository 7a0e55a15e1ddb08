use Rattle.std.proofs.Common.{is_some, rules, tests}
use Rattle.std.proofs.lemmas.Iterator.{YieldsList-from_slice}
use Rattle.std.proofs.lemmas.Iterator.Search.{find_from_yields_List}
use Rattle.krb_client_exchanges.specs.Hints.{first_entry, suite_among}
use Rattle.krb_client_exchanges.proofs.entries.first_entry.Goals as goal

pub returns : goal.returns
unfolding first_entry
returns c = find_from_yields_List (λ entry. is_some (suite_among c.args.suites.now entry.etype.0)) _ _ _ c.find.ensures.ran (YieldsList-from_slice c.args.entries.now cc) (λ x b q k. search (rules, tests))

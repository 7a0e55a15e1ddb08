use Rattle.std.proofs.Common.{arith}
use Rattle.std.proofs.lemmas.Grind.{common_steps}
use Rattle.std.proofs.lemmas.List.Elements.{filter_map-append}
use Rattle.krb_service.proofs.keytab_service.entries.entries_of.Goals as goal

pub loop-key_record-preserved : goal.loop-key_record-preserved
loop-key_record-preserved c = grind (arith, common_steps, filter_map-append)

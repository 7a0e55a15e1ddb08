use Rattle.std.proofs.Common.{rules, tests}
use Rattle.std.proofs.lemmas.Iterator.{YieldsList-from_slice}
use Rattle.std.proofs.lemmas.Iterator.Search.{find_from_yields_List}
use Rattle.picky_asn1.specs.Numbers.{is_number}
use Rattle.krb_messages.specs.Padata.{first_padata}
use Rattle.krb_messages.proofs.padata.first_padata.Goals as goal

pub returns : goal.returns
unfolding first_padata
returns c = find_from_yields_List (λ pa_data. is_number c.args.kind pa_data.padata_type.0) _ _ _ c.find.ensures.ran (YieldsList-from_slice c.args.padata.now cc) (λ x b q k. search (rules, tests))

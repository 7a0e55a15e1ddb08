use Rattle.std.proofs.Common.{◌∙◌, sym, arith}
use Rattle.encryption_profiles.proofs.CopyLemmas.{number_at-first_copy}
use Rattle.encryption_profiles.proofs.whole_copies.first_copy.Goals as goal

pub returns : goal.returns
returns c = omega (arith, c.from_be_bytes-front.ensures, c.from.ensures, c.from-2.ensures, number_at-first_copy c.args.constant.now c.requires (λ i. (c.type_inv.constant i).fits))

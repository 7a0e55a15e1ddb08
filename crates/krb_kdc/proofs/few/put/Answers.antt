use Rattle.std.proofs.Common.{List, ap, ◌∙◌}
use Rattle.std.specs.FinMap.{insert}
use Rattle.picky_asn1.specs.Bytes.{Bytes}
use Rattle.krb_kdc.proofs.few.put.Goals as goal

pub returns-in-Ok-clause-few : goal.returns-in-Ok-clause-few
returns-in-Ok-clause-few c =
    c.in-Ok.ensures.ok ∙ ap (λ (name : List Bytes). insert c.args.few.now name c.args.account) (c.in_ok-own.ensures.items_if_clones_equal (λ x y same. same))

use Rattle.std.proofs.Common.{◌∙◌}
use Rattle.std.proofs.lemmas.Result.{IfOk-weaker}
use Rattle.picky_asn1.proofs.IntegerLemmas.{integer_value-be_bytes, integer_value-one}
use Rattle.picky_asn1.proofs.integer.IntegerAsn1.from_u64.Goals as goal

pub returns-then-value-lt128 : goal.returns-then-value-lt128
returns-then-value-lt128 c =
    IfOk-weaker c.from_octets.result _ _ (λ z e. e ∙ integer_value-one c.args.value c.if-value-lt128.true) c.from_octets.ensures.value

pub returns : goal.returns
returns c =
    let value = integer_value-be_bytes c.copy_from_slice.new.self c.args.value c.ranges.value.fits (c.copy_from_slice.ensures.after ∙ c.to_be_bytes.ensures) in
    IfOk-weaker c.from_octets-2.result _ _ (λ z e. e ∙ c.shortest.ensures.value ∙ value) c.from_octets-2.ensures.value

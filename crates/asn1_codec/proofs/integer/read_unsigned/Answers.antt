use Rattle.std.proofs.Common.{◌+◌, ltb, ◌∙◌, sym, arith}
use Rattle.std.proofs.lemmas.Bool.{ltb-true}
use Rattle.asn1_codec.specs.Unsigned.{unsigned_content, unsigned_fault}
use Rattle.asn1_codec.proofs.Leaves.{refused-content}
use Rattle.asn1_codec.proofs.UnsignedLemmas.{unsigned_fault-own}
use Rattle.asn1_codec.proofs.integer.read_unsigned.Goals as goal

pub returns : goal.returns
returns g c =
    refused-content (λ n. ltb n (c.args.most + 1)) c.args.tag unsigned_content c.in_ok-content.content _ _ _ _ (unsigned_fault c.as_bytes.result.now)
    c.in_ok-content.ensures c.refuse.ensures.after (c.refuse.ensures.fault ∙ c.in-Err.ensures.0)
    (unsigned_fault-own c.as_bytes.result.now)
    (λ n valid is. c.in-Err.ensures.1 n (omega (arith, ltb-true n (c.args.most + 1) valid)) (is ∙ sym c.as_bytes.ensures))

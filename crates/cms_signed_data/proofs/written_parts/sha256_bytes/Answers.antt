use Rattle.cms_signed_data.proofs.WriteLemmas.{sha256_spelled}
use Rattle.cms_signed_data.proofs.written_parts.sha256_bytes.Goals as goal

pub returns : goal.returns
returns c =
    sha256_spelled c.from_parts-algorithm.result c.in_ok-oid.oid c.in_ok-bytes.bytes.items c.from_parts-algorithm.ensures.0 c.in_ok-oid.ensures.1 c.from_parts-algorithm.ensures.1
    c.in_ok-bytes.ensures

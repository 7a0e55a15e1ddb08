use Rattle.cms_signed_data.proofs.WriteLemmas.{oid_spelled}
use Rattle.cms_signed_data.proofs.written_parts.signed_data_oid.Goals as goal

pub returns : goal.returns
returns c = oid_spelled c.in_ok-arcs.arcs c.in_ok-bytes.bytes.items c.in_ok-arcs.ensures.1 c.in_ok-bytes.ensures

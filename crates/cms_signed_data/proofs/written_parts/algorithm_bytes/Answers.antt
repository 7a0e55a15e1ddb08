use Rattle.cms_signed_data.proofs.written_parts.algorithm_bytes.Goals as goal

pub returns : goal.returns
returns c = c.in_ok-bytes.ensures c.has_encoding.ensures

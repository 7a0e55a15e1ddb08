use Rattle.cms_signed_data.proofs.WriteLemmas.{encapsulated_spelled}
use Rattle.cms_signed_data.proofs.written_parts.encapsulated_bytes.Goals as goal

pub returns : goal.returns
returns c =
    encapsulated_spelled c.args.content_type.now c.args.content.now c.in_ok-encapsulated.encapsulated c.in_ok-bytes.bytes.items c.as_bytes-octets.ensures.valid
    c.in_ok-encapsulated.ensures c.in_ok-bytes.ensures

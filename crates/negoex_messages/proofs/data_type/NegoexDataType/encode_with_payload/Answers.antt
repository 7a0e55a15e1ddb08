use Rattle.byte_streams.proofs.Exits.{at-exit}
use Rattle.negoex_messages.proofs.WholeFront.{whole-front}
use Rattle.negoex_messages.proofs.data_type.NegoexDataType.encode_with_payload.Goals as goal

pub returns-in_err-write_out-2-clause-header : goal.returns-in_err-write_out-2-clause-header
returns-in_err-write_out-2-clause-header g c =
    at-exit _ _ _ _ c.from_residual-in_err-write_out-2.ensures.1
    (whole-front _ _ _ _ _ _ c.new-header.ensures.items c.in_ok-put.ensures.header c.deref.ensures.value c.in_ok-write_out.ensures.written)

use Rattle.microsoft_messages.proofs.FrameLaws.{five-put}
use Rattle.microsoft_messages.proofs.frame.put_frame.Goals as goal

pub returns : goal.returns
returns c =
    five-put _ _ _ _ _ _ _ _ _ _ _ _ _ _ c.in_ok-extend_from_slice.ensures.items c.in_ok-extend_from_slice-2.ensures.items
    c.in_ok-extend_from_slice-3.ensures.items c.in_ok-extend_from_slice-4.ensures.items c.in_ok-extend_from_slice-5.ensures.items
    c.u16_be_bytes.ensures.bytes c.u16_be_bytes-2.ensures.bytes c.u16_be_bytes-3.ensures.bytes

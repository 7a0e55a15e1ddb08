use Rattle.pkinit_messages.proofs.Room.{room}
use Rattle.pkinit_messages.proofs.auth_pack.AuthPackPartialEq.eq.Goals as goal

pub and_eq-requires-room-T-PartialEq : goal.and_eq-requires-room-T-PartialEq
and_eq-requires-room-T-PartialEq g c κs within = room _ g.met.V.ClientPublicValue.fits

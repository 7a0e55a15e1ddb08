use Rattle.pkinit_messages.proofs.Room.{room}
use Rattle.pkinit_validation.proofs.pkinit_messages++auth_pack++AuthPack+Destruct.drop.Goals as goal

pub drop-requires-2-room-T-Destruct : goal.drop-requires-2-room-T-Destruct
drop-requires-2-room-T-Destruct g c κs within = room _ g.met.V.ClientPublicValue.fits

use Rattle.pkinit_messages.proofs.Room.{room}
use Rattle.pkinit_messages.proofs.auth_pack.AuthPackDebug.fmt.Goals as goal

pub derived_fields4-requires-room-B-Debug : goal.derived_fields4-requires-room-B-Debug
derived_fields4-requires-room-B-Debug g c κs within = room _ g.met.V.ClientPublicValue.fits

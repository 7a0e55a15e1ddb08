use Rattle.pkinit_messages.proofs.Room.{room}
use Rattle.pkinit_messages.proofs.auth_pack.AuthPackClone.clone.Goals as goal

pub copied-requires-room-B-LentFields : goal.copied-requires-room-B-LentFields
copied-requires-room-B-LentFields g c κs within = room _ g.met.V.ClientPublicValue.fits

pub copied-requires-room-B-LentFields-2 : goal.copied-requires-room-B-LentFields-2
copied-requires-room-B-LentFields-2 g c κs within = room _ g.met.V.ClientPublicValue.fits

pub copied-requires-room-B-LentFields-3 : goal.copied-requires-room-B-LentFields-3
copied-requires-room-B-LentFields-3 g c κs within = room _ g.met.V.ClientPublicValue.fits

pub copied-requires-room-B-LentFields-4 : goal.copied-requires-room-B-LentFields-4
copied-requires-room-B-LentFields-4 g c κs within = room _ g.met.V.ClientPublicValue.fits

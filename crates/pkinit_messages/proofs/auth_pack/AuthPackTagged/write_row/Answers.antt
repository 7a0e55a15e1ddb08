use Rattle.pkinit_messages.proofs.Room.{room}
use Rattle.pkinit_messages.proofs.auth_pack.AuthPackTagged.write_row.Goals as goal

pub list-requires-room-F-WriteFields : goal.list-requires-room-F-WriteFields
list-requires-room-F-WriteFields g c κs within = room _ g.met.V.ClientPublicValue.fits

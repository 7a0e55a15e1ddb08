use Rattle.pkinit_messages.proofs.Room.{room}
use Rattle.pkinit_messages.proofs.auth_pack.AuthPackTagged.read_row.Goals as goal

pub read_sequence-requires-room-F-Fields : goal.read_sequence-requires-room-F-Fields
read_sequence-requires-room-F-Fields g c κs within = room _ g.met.V.ClientPublicValue.fits

pub read_sequence-requires-room-F-Fields-2 : goal.read_sequence-requires-room-F-Fields-2
read_sequence-requires-room-F-Fields-2 g c κs within = room _ g.met.V.ClientPublicValue.fits

pub read_sequence-requires-room-F-Fields-3 : goal.read_sequence-requires-room-F-Fields-3
read_sequence-requires-room-F-Fields-3 g c κs within = room _ g.met.V.ClientPublicValue.fits

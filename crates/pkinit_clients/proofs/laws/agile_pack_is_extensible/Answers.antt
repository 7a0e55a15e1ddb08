use Rattle.pkinit_messages.specs.AuthPacks.{IsExtensibleAuthPack}
use Rattle.pkinit_clients.proofs.laws.agile_pack_is_extensible.Goals as goal

pub returns : goal.returns
unfolding IsExtensibleAuthPack
returns c = λ authenticator value bytes is. is

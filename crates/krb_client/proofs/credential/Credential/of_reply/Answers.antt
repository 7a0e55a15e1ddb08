use Rattle.std.proofs.Common.{sym}
use Rattle.krb_tickets.proofs.FoundKeys.{key_found}
use Rattle.krb_client.proofs.credential.Credential.of_reply.Goals as goal

pub with_key-requires : goal.with_key-requires
with_key-requires c = sym (key_found c.args.part.now.key.0 c.args.key c.requires).1

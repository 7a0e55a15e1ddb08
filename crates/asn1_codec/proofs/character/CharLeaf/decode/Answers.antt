use Rattle.asn1_codec.proofs.CharacterLemmas.{no_text}
use Rattle.asn1_codec.proofs.character.CharLeaf.decode.Goals as goal

pub returns-in-Err : goal.returns-in-Err
returns-in-Err c = no_text c.args.content.now c.in-Err.ensures.cases.0

use Rattle.std.proofs.Common.{sym}
use Rattle.picky_asn1.proofs.IntegerLemmas.{not_content}
use Rattle.picky_asn1.proofs.integer.IntegerAsn1.from_content.Goals as goal

pub returns-then-not-is_integer : goal.returns-then-not-is_integer
returns-then-not-is_integer c = not_content c.args.content.now (sym c.if-not-is_integer.ensures)

use Rattle.cms_signed_data.specs.WrittenLaws.{written_read}
use Rattle.cms_signed_data.proofs.laws.written_is_read.Goals as goal

pub returns : goal.returns
returns c = written_read

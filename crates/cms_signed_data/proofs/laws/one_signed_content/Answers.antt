use Rattle.cms_signed_data.specs.SignedLaws.{one_content}
use Rattle.cms_signed_data.proofs.laws.one_signed_content.Goals as goal

pub returns : goal.returns
returns c = one_content

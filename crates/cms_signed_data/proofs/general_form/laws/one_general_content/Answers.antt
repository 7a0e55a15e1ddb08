use Rattle.cms_signed_data.specs.GeneralLaws.{one_general}
use Rattle.cms_signed_data.proofs.general_form.laws.one_general_content.Goals as goal

pub returns : goal.returns
returns c = one_general

use Rattle.cms_signed_data.proofs.OneFormLemmas.{is_general}
use Rattle.cms_signed_data.proofs.general_form.laws.one_form_is_general.Goals as goal

pub returns : goal.returns
returns c = is_general

use Rattle.cms_signed_data.proofs.IdentifierLemmas.{copied_is}
use Rattle.cms_signed_data.proofs.general_form.identifier.key_id_of.Goals as goal

pub returns : goal.returns
returns c = copied_is c.subject_key_identifier.result _ c.subject_key_identifier.ensures

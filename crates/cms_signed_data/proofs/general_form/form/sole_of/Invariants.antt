use Rattle.std.proofs.Common.{◌≡◌, length}
use Rattle.cms_signed_data.specs.GeneralForm.{sole_of}
use Rattle.cms_signed_data.proofs.general_form.form.sole_of.Given as goal

abbrev pub invariant-attributes : goal.invariant-attributes
invariant-attributes l = sole_of l.ty l.attributes ≡ sole_of l.ty l.rest

abbrev pub decreases-attributes : goal.decreases-attributes
decreases-attributes l = length l.rest

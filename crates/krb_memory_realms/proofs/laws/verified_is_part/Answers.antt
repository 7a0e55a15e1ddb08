use Rattle.std.proofs.Common.{[], ◌∷◌, ◌++◌}
use Rattle.krb_constants.specs.declared.padata_types.TheConstants.{PA_PK_AS_REQ}
use Rattle.cms_signed_data.specs.Parts.{attributes_place, certificate_place}
use Rattle.krb_memory_realms.proofs.laws.verified_is_part.Goals as goal

pub returns-clause-attributes : goal.returns-clause-attributes
returns-clause-attributes c = λ bytes padata asked request content is first read signed.
    let at = c.padata_is_part.ensures bytes padata PA_PK_AS_REQ asked is first in
    (at.0, at.2 0 (0 ∷ attributes_place) content.signed_attributes (c.judged_is_part.ensures.attributes padata request content read signed))

pub returns-clause-certificate : goal.returns-clause-certificate
returns-clause-certificate c = λ bytes padata asked request content certificate is first read signed spelled.
    let at = c.padata_is_part.ensures bytes padata PA_PK_AS_REQ asked is first in
    (at.0, at.2 0 (0 ∷ (certificate_place ++ 0 ∷ [])) certificate.signed (c.judged_is_part.ensures.certificate padata request content certificate read signed spelled))

-- Preauthentication data of a request (RFC 4120, section 5.2.7).
use Rattle.std.specs.Prelude.{ℕ, List, [], Option}
use Rattle.std.specs.List.{find}
use Rattle.std.specs.Option.{option_map, option_map_or}
use Rattle.krb_messages.specs.declared.data_types.pa_data.PaData.{PaData}
use Rattle.krb_messages.specs.declared.messages.kdc_req.KdcReq.{KdcReq}
use Rattle.picky_asn1.specs.Numbers.{is_number}
use Rattle.picky_asn1.specs.Bytes.{Bytes}

-- the first padata of a type
unfoldable pub first_padata : ℕ → List PaData → Option PaData
first_padata kind padata = find (λ pa_data. is_number kind pa_data.padata_type.0) padata

-- the value of the first padata of a type; later ones are ignored
unfoldable pub first_of : ℕ → List PaData → Option Bytes
first_of kind padata = option_map (λ pa_data. pa_data.padata_data.0) (first_padata kind padata)

-- the padata of a request
abbrev pub padata_in : KdcReq → List PaData
padata_in request = option_map_or (λ tagged. tagged.0) request.padata.0 []

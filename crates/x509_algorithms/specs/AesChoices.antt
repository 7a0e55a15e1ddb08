-- Parameters of AES as one of three alternatives.
use Rattle.std.specs.Prelude.{◌≡◌, ℕ, List, ⊤, refl}
use Rattle.picky_asn1_der.specs.declared.choice.Choice.{Choice}
use Rattle.picky_asn1_der.specs.declared.choice.Choice.TheVariants.{This, Other}
use Rattle.picky_asn1_der.specs.declared.choice.Last.{Last}
use Rattle.x509_algorithms.specs.declared.aes_parameters.AesAuthEncParams.{AesAuthEncParams}
use Rattle.x509_algorithms.specs.declared.aes_parameters.AesParameters.{AesParameters}
use Rattle.x509_algorithms.specs.declared.aes_parameters.AesParameters.TheVariants as kind

abbrev pub AesChoice : Type 0
AesChoice = Choice ⊤ (Choice (List ℕ) (Last AesAuthEncParams))

abbrev pub aes_choice : AesParameters → AesChoice
aes_choice kind.Null = This tt
aes_choice (kind.InitializationVector vector) = Other (This vector)
aes_choice (kind.AuthenticatedEncryptionParameters params) = Other (Other (record { 0 = params }))

abbrev pub aes_made : AesChoice → AesParameters
aes_made (This null) = kind.Null
aes_made (Other (This vector)) = kind.InitializationVector vector
aes_made (Other (Other last)) = kind.AuthenticatedEncryptionParameters last.0

pub aes_back : (v : AesParameters) → aes_made (aes_choice v) ≡ v
aes_back kind.Null = refl
aes_back (kind.InitializationVector vector) = refl
aes_back (kind.AuthenticatedEncryptionParameters params) = refl

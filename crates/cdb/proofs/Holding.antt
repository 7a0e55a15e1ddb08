-- Whether a look-up finds given data.
use Rattle.std.specs.declared.io.ErrorKind.{ErrorKind}
use Rattle.std.proofs.Common.{◌≡◌, ℕ, List, Option, Ok, refl}
use Rattle.cdb.specs.declared.fault.Fault.{Fault}
use Rattle.cdb.specs.Check.{are_data, has_data}
use Rattle.cdb.specs.Find.{looked_up}
use Rattle.cdb.specs.Reading.{Fails}
use Rattle.cdb.proofs.Positions.{fails_on}

pub has_data_fails : (fails : ErrorKind → Type 0) (fault : Fault) (room : ℕ) (bytes key content : List ℕ) → Fails fails fault (looked_up room bytes key)
    → Fails fails fault (has_data room bytes key content)
unfolding has_data
has_data_fails fails fault room bytes key content h = fails_on fails fault (looked_up room bytes key) (λ found. Ok (are_data content found)) h

pub has_data_is : (found : Option (List ℕ)) (room : ℕ) (bytes key content : List ℕ) → looked_up room bytes key ≡ Ok found → has_data room bytes key content ≡ Ok (are_data content found)
unfolding has_data
has_data_is found room bytes key content is = rw is refl

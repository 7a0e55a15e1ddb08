use Rattle.cdb.proofs.DatabaseLaws.{found_in, looked_in}
use Rattle.cdb.proofs.laws.finds_the_first.Goals as goal

pub returns-clause-place : goal.returns-clause-place
returns-clause-place c = λ octets records is key. found_in octets records is key

pub returns-clause-content : goal.returns-clause-content
returns-clause-content c = λ octets records is room fits key. looked_in octets records is key room fits

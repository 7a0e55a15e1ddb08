use Rattle.asn1_codec.proofs.Chain.{at-exit}
use Rattle.x509_spelling.specs.Spellings.{Holds, AreMany}
use Rattle.x509_spelling.specs.Answers.{IsRefusal}
use Rattle.x509_certificates.specs.ListLaws.{list_octet, of_low}
use Rattle.x509_certificates.proofs.spelled_list.SpelledListSpelled.read_counted.Goals as goal

pub returns-in_err-read : goal.returns-in_err-read
returns-in_err-read g c =
    at-exit _ _ _ _ c.from_residual.ensures.1
    (of_low g.T.Spelled.has_low_tags g.met.T.ListElement.one_octet g.T.Spelled.spells
    (λ spells. IsRefusal (λ v n. Holds (list_octet g.row.OCTET) (AreMany spells) v c.args.bytes.now n) c.in_err-read.field-0.0) c.in_err-read.ensures)

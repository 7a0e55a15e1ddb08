use Rattle.std.proofs.Common.{sym, ap, ◌∙◌}
use Rattle.std.specs.Str.{encode_utf8_all}
use Rattle.std.specs.Str.Lossy.{utf8_lossy}
use Rattle.std.proofs.Output.{has_written_of_eq}
use Rattle.std.proofs.lemmas.Str.{utf8_lossy-IsUtf8}
use Rattle.x509_fields.specs.DirectoryStrings.{bmp_characters, lossy_text}
use Rattle.x509_fields.proofs.BmpLemmas.{text_of_characters}
use Rattle.x509_fields.proofs.directory_string.DirectoryStringDisplay.fmt.Goals as goal

pub returns-in-PrintableString-clause-writes : goal.returns-in-PrintableString-clause-writes
returns-in-PrintableString-clause-writes g c = λ plain ok.
    let text = ap lossy_text c.in-PrintableString.is ∙ ap utf8_lossy (sym c.as_str.ensures) ∙ utf8_lossy-IsUtf8 c.as_str.result.now c.as_str.utf8 in
    has_written_of_eq _ _ _ _ _ (sym text) (c.write_str.ensures.writes plain ok)

pub returns-in-BmpString-clause-writes : goal.returns-in-BmpString-clause-writes
returns-in-BmpString-clause-writes g c = λ plain ok.
    let text = ap lossy_text c.in-BmpString.is ∙ ap (λ octets. encode_utf8_all (bmp_characters octets)) (sym c.as_bytes.ensures.value) ∙ sym (text_of_characters (bmp_characters c.as_bytes.result.now)) in
    has_written_of_eq _ _ _ _ _ (sym text) (c.write-in-BmpString.ensures.writes plain ok)

use Rattle.std.proofs.Common.{◌≡◌, List, ℕ, sym}
use Rattle.std.specs.Prelude.{IsTrue}
use Rattle.std.specs.Str.{is_utf8}
use Rattle.std.proofs.lemmas.Str.{is_utf8-from_IsUtf8}
use Rattle.x509_fields.proofs.directory_string.DirectoryString.from_text.Goals as goal

pub unreachable-requires : goal.unreachable-requires
unreachable-requires c =
    let none : (text : List ℕ) → IsTrue (is_utf8 text) → text ≡ c.as_bytes.result.now → ⊥ = rw c.in-None.is at c.in_ok-string.ensures in
    none c.args.text.now (is_utf8-from_IsUtf8 c.args.text.now c.utf8.text) (sym c.as_bytes.ensures.value)

use Rattle.std.proofs.Common.{◌≡◌, ◌++◌, ℕ, List, drop}
use Rattle.krb_file_formats.specs.Entries.{TextsFit, texts_bytes}
use Rattle.krb_file_formats.proofs.writing.put_texts.Given as goal

-- what is left, in front of anything
abbrev pub invariant-loop-text : goal.invariant-loop-text
invariant-loop-text l = record {
  put : (more : List ℕ) → l.to.items ++ texts_bytes (drop l.text-index l.texts) more ≡ l.initial.to.items ++ texts_bytes l.texts more;
  fit : TextsFit (drop l.text-index l.texts) → TextsFit l.texts;
  back : TextsFit l.texts → TextsFit (drop l.text-index l.texts);
}

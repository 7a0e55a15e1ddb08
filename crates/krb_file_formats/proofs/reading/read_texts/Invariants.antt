use Rattle.std.proofs.Common.{◌≡◌, ◌+◌, ◌-◌}
use Rattle.krb_file_formats.specs.Entries.{texts_size}
use Rattle.krb_file_formats.specs.Reading.{followed, texts_at}
use Rattle.krb_file_formats.proofs.reading.read_texts.Given as goal

-- the texts so far, and what is left
abbrev pub invariant-loop : goal.invariant-loop
invariant-loop l = record {
  told : followed l.texts.items (texts_at (l.count - l.counter) l.end l.front) ≡ texts_at l.count l.place l.front;
  end : l.end ≡ l.place + texts_size l.texts.items;
}

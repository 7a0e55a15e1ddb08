use Rattle.std.proofs.Common.{◌≡◌, ◌-◌, length}
use Rattle.krb_file_formats.specs.Reading.{followed}
use Rattle.krb_file_formats.specs.Formats.{all_at}
use Rattle.krb_file_formats.proofs.credential_caches.items.read_all.Given as goal

-- the items so far, and what is left
abbrev pub invariant-loop : goal.invariant-loop
invariant-loop g l =
    let format = g.T.CacheItem.format in
    followed l.items.items (all_at format (length l.bytes - l.counter) l.next l.bytes) ≡ all_at format (length l.bytes) l.place l.bytes

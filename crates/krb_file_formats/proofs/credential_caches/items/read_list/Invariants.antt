use Rattle.std.proofs.Common.{◌≡◌, ◌-◌}
use Rattle.krb_file_formats.specs.Formats.{in_front, list_at}
use Rattle.krb_file_formats.proofs.credential_caches.items.read_list.Given as goal

-- the items so far, and what is left
abbrev pub invariant-loop : goal.invariant-loop
invariant-loop g l =
    let format = g.T.CacheItem.format in
    in_front l.items.items (list_at format (l.count - l.counter) l.end l.bytes) ≡ list_at format l.count l.place l.bytes

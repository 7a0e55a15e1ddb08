use Rattle.std.proofs.Common.{◌≡◌, ◌++◌, ℕ, List, drop}
use Rattle.krb_file_formats.specs.Formats.{AllFit, list_bytes}
use Rattle.krb_file_formats.proofs.credential_caches.items.put_list.Given as goal

-- what is left, in front of anything
abbrev pub invariant-loop-item : goal.invariant-loop-item
invariant-loop-item g l =
    let format = g.T.CacheItem.format in
    record {
      put : (more : List ℕ) → l.to.items ++ list_bytes format (drop l.item-index l.items) more ≡ l.initial.to.items ++ list_bytes format l.items more;
      fit : AllFit format (drop l.item-index l.items) → AllFit format l.items;
      back : AllFit format l.items → AllFit format (drop l.item-index l.items);
    }

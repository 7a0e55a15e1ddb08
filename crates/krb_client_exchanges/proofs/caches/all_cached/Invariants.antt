use Rattle.std.proofs.Common.{◌≡◌, ◌∷◌, map, take}
use Rattle.krb_client_exchanges.specs.LoginCaches.{cached_credential}
use Rattle.krb_client_exchanges.proofs.caches.all_cached.Given as goal

-- the credentials so far
abbrev pub invariant-loop-credential : goal.invariant-loop-credential
invariant-loop-credential l = l.all.items ≡ map (cached_credential l.client) (l.granting ∷ take l.credential-index l.further)

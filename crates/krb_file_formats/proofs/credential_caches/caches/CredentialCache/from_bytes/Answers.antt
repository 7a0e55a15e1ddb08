use Rattle.std.proofs.Common.{arith}
use Rattle.byte_streams.proofs.Exits.{at-exit}
use Rattle.krb_file_formats.proofs.CacheLaws.{cache-found, same-cache, refused-cache}
use Rattle.krb_file_formats.proofs.credential_caches.caches.CredentialCache.from_bytes.Goals as goal

pub returns-in_err-cache-clause-only : goal.returns-in_err-cache-clause-only
returns-in_err-cache-clause-only c =
    λ d is. at-exit _ _ _ _ c.from_residual.ensures.1 (refused-cache d c.args.bytes.now _ is c.in_err-cache.ensures)

pub returns-clause-laid : goal.returns-clause-laid
returns-clause-laid c = cache-found _ c.args.bytes.now (λ i. omega (arith, c.type_inv.bytes i)) c.in_ok-cache.ensures

pub returns-clause-only : goal.returns-clause-only
returns-clause-only c = λ d is. same-cache _ d c.args.bytes.now is c.in_ok-cache.ensures

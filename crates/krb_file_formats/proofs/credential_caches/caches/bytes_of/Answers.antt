use Rattle.std.proofs.Common.{ap, ◌∙◌}
use Rattle.krb_file_formats.proofs.CacheWritingLaws.{cache-put}
use Rattle.krb_file_formats.proofs.credential_caches.caches.bytes_of.Goals as goal

pub returns : goal.returns
returns c =
    cache-put c.args.cache.now c.as_slice.result.now c.cache.inside.default_principal c.as_slice-2.result.now _ _ _ _ _ _
    (c.as_slice.ensures.value ∙ ap (λ d. d.tags) c.cache.view_is) (ap (λ d. d.default_principal) c.cache.view_is)
    (c.as_slice-2.ensures.value ∙ ap (λ d. d.credentials) c.cache.view_is) c.new-bytes.ensures.items c.in_ok-extend_from_slice.ensures.items
    c.u16_be_bytes.ensures.bytes c.in_ok-put_header.ensures c.in_ok-put.ensures c.in_ok-put_list.ensures

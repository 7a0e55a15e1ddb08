use Rattle.std.proofs.Common.{arith}
use Rattle.krb_file_formats.proofs.CacheWritingLaws.{header-put}
use Rattle.krb_file_formats.proofs.credential_caches.header_tags.put_header.Goals as goal

pub returns : goal.returns
returns c =
    let size = c.in_ok-size.ensures.0 in
    let long = c.put_list.new.to.ok.0 in
    header-put c.args.tags.now c.in_ok-size.size _ _ c.as_slice.result.now _ _ _ c.new-body.ensures.items c.in_ok-put_list.ensures.0 c.in_ok-put_list.ensures.1
    (omega (arith, size, long, c.len.ensures)) c.in_ok-put_number16.ensures c.in_ok-extend_from_slice.ensures.items c.as_slice.ensures.value

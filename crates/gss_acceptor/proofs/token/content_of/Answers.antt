use Rattle.std.proofs.Common.{◌≡◌, []}
use Rattle.gss_acceptor.proofs.Held.{more_behind, no_element, other_element}
use Rattle.gss_acceptor.proofs.token.content_of.Goals as goal

pub returns-in-Err : goal.returns-in-Err
returns-in-Err c = no_element c.args.token.now c.in-Err.ensures.0

pub returns-then-from-ne-INITIAL_TOKEN : goal.returns-then-from-ne-INITIAL_TOKEN
returns-then-from-ne-INITIAL_TOKEN c =
    let same : c.from.result ≡ c.in-Ok.split.0.first = cc (c.from.ensures, c.tag.ensures) in
    other_element c.args.token.now c.in-Ok.split.0.first c.from.result c.in-Ok.split.0.content c.in-Ok.split.1.now c.in-Ok.ensures.split.1 same c.if-from-ne-INITIAL_TOKEN.true

pub returns : goal.returns
returns c =
    more_behind c.args.token.now c.in-Ok.split.0.first c.in-Ok.split.0.content c.in-Ok.split.1.now c.in-Ok.ensures.split.1
    (λ (none : c.in-Ok.split.1.now ≡ []). let empty = rw none at c.if-is_empty.ensures in cc (empty))

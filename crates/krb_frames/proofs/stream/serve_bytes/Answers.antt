use Rattle.std.proofs.Common.{refl, ap, ◌∙◌}
use Rattle.std.proofs.lemmas.Iterator.{YieldsList-from_slice}
use Rattle.std.proofs.lemmas.Iterator.Consumers.{YieldsList-from_copied}
use Rattle.std.specs.Slice.Iter.{iter_rest}
use Rattle.krb_frames.specs.Serving.{Left, IsServed, at}
use Rattle.krb_frames.proofs.KnownMoments.{of_list}
use Rattle.krb_frames.proofs.stream.serve_bytes.Goals as goal

pub returns-clause-output : goal.returns-clause-output
returns-clause-output g c =
    let out = c.serve.ensures.output c.args.stream.now refl c.args.words.now refl in
    let gave = YieldsList-from_copied (YieldsList-from_slice c.args.moments.now (ap iter_rest c.copied.ensures.source ∙ c.iter.ensures.rest)) in
    let served = of_list _ c.copied.result c.args.moments.now gave
    (λ moments. (left : Left) × IsServed (g.A.Responder.replies c.args.responder.now) (g.A.Responder.may_want_memory c.args.responder.now) (at moments c.args.stream.now c.args.words.now) out.1 c.serve.result left)
    _ out.0 out.4 (λ later none. (at later out.2 out.3, out.8 later none)) in
    (out.1, served.0, out.5, served.1)

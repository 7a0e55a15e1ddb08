use Rattle.krb_frames.proofs.Progress.{DrainsIf-from_Draws}
use Rattle.krb_frames.proofs.stream.serve.Goals as goal

pub returns-clause-output : goal.returns-clause-output
returns-clause-output g c = λ stream e words f.
    let out = c.serve_frames.ensures.output stream e words f in
    (out.0, out.1, out.2, out.3, DrainsIf-from_Draws g.M.Iterator.next_gives c.args.moments _ out.0 c.serve_frames.result out.4, out.5, out.6, out.7, out.8)

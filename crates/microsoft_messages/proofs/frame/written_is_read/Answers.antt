use Rattle.std.proofs.Common.{refl}
use Rattle.microsoft_messages.proofs.FrameLaws.{frame-laid}
use Rattle.microsoft_messages.proofs.frame.written_is_read.Goals as goal

pub returns : goal.returns
returns g c = λ a p ap_whole private_whole ap_fits private_fits. record {
  ap = _;
  private = _;
  ap_read = (ap_whole, refl);
  private_read = (private_whole, refl);
  ap_fits = ap_fits;
  private_fits = private_fits;
  framed = (frame-laid _ _).framed;
}

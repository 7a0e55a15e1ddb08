use Rattle.asn1_leaves.proofs.TimeLemmas.{IsGeneralString-shown_time}
use Rattle.asn1_leaves.proofs.date.GeneralizedTimeDisplay.fmt.Goals as goal

pub ascii_text-requires : goal.ascii_text-requires
ascii_text-requires g c = rw c.to_shown-shown.ensures (IsGeneralString-shown_time c.args.self.now)

use Rattle.std.proofs.Common.{◌≡◌, subst}
use Rattle.std.specs.Prelude.{IfOk}
use Rattle.pkinit_messages.specs.OtherInfos.{other_info_bytes}
use Rattle.pkinit_messages.specs.declared.agility.other_info.OtherInfo.{OtherInfo}
use Rattle.pkinit_messages.proofs.agility.info_octets.other_info_bytes.Goals as goal

pub returns : goal.returns
unfolding other_info_bytes
returns c = subst (λ (info : OtherInfo). IfOk c.encoding_of.result (λ bytes. bytes.items ≡ other_info_bytes info)) c.in_ok-info.ensures c.encoding_of.ensures

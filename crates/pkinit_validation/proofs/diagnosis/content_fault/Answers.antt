use Rattle.std.proofs.Common.{◌≡◌, true, sym, ◌∙◌}
use Rattle.pkinit_validation.specs.PkinitTable.{is_auth_data}
use Rattle.pkinit_validation.proofs.diagnosis.content_fault.Goals as goal

pub returns : goal.returns
returns c =
    let same : is_auth_data c.args.content.now ≡ true = sym c.is_auth_data.ensures ∙ c.if-not-is_auth_data.false in
    let told = rw c.content.ensures at c.octets_fault.ensures in
    rw same told

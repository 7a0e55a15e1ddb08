use Rattle.std.proofs.Common.{◌≡◌, true, false, Err, sym, refl, inr, ◌∙◌}
use Rattle.cms_signed_data.specs.GeneralContents.{content_of}
use Rattle.decision_tables.specs.Tables.{done}
use Rattle.krb_constants.specs.declared.error_codes.TheConstants.{KDC_ERR_PREAUTH_FAILED}
use Rattle.pkinit_messages.specs.AuthPacks.{IsExtensibleAuthPack, sole_extensible_auth_pack}
use Rattle.krb_kdc_exchanges.specs.PkinitCalls.{agreed_as}
use Rattle.pkinit_validation.specs.Judging.{judging_of}
use Rattle.pkinit_validation.specs.GeneralTable.{is_general_auth_data, of_general_pack}
use Rattle.pkinit_validation.proofs.JudgedReading.{judged_ask}
use Rattle.pkinit_validation.proofs.policies.table.judge_content.Goals as goal

pub returns-then-not-is_auth_data : goal.returns-then-not-is_auth_data
returns-then-not-is_auth_data g c =
    let other : is_general_auth_data c.args.content.now ≡ false = sym c.is_auth_data.ensures ∙ c.if-not-is_auth_data.true in
    rw other refl

pub returns-in_default : goal.returns-in_default
returns-in_default g c =
    let same : is_general_auth_data c.args.content.now ≡ true = sym c.is_auth_data.ensures ∙ c.if-not-is_auth_data.false in
    let none = rw (c.in_default.is, c.content.ensures) at c.in_ok-pack.ensures in
    rw same (inr (none, refl))

pub returns : goal.returns
returns g c =
    let bytes = content_of c.args.content.now.info in
    let same : is_general_auth_data c.args.content.now ≡ true = sym c.is_auth_data.ensures ∙ c.if-not-is_auth_data.false in
    let found : IsExtensibleAuthPack bytes c.in-Some.pack = rw (c.in-Some.is, c.content.ensures) at c.in_ok-pack.ensures in
    rw same
    (judged_ask (IsExtensibleAuthPack bytes) (sole_extensible_auth_pack bytes) (done (Err KDC_ERR_PREAUTH_FAILED))
    (of_general_pack (g.K.KeyFunctions.functions c.args.keys.now) c.args.policy (judging_of c.args.judging.now) c.args.content.now)
    c.in-Some.pack (agreed_as c.judge_auth_pack-judged.result) found c.judge_auth_pack-judged.ensures)

use Rattle.std.proofs.Common.{◌≡◌, ℕ, List, true, sym, ◌∙◌, subst}
use Rattle.cms_signed_data.specs.SignedParts.{content_of}
use Rattle.pkinit_clients.specs.Asked.{asked_of, expected_realm}
use Rattle.pkinit_clients.specs.Faults.{IsTakenAs, as_secret}
use Rattle.pkinit_clients.specs.Replies.{is_dh_key_data, of_key_data, signed_by}
use Rattle.pkinit_clients.proofs.TakenLemmas.{taken_then}
use Rattle.pkinit_clients.proofs.reply.take_content.Goals as goal

pub returns : goal.returns
returns g c =
    let keys = g.K.KeyFunctions.functions c.args.keys.now in
    let asked = asked_of c.args.asked.now in
    let content = c.args.content.now in
    let same : is_dh_key_data content ≡ true = sym c.is_dh_key_data.ensures ∙ c.if-not-is_dh_key_data.false in
    let rest : IsTakenAs (of_key_data keys asked (content_of content.info)).gives (as_secret c.take_key_data.result) =
    subst (λ (bytes : List ℕ). IsTakenAs (of_key_data keys asked bytes).gives (as_secret c.take_key_data.result)) c.content.ensures c.take_key_data.ensures in
    rw same
    (taken_then (signed_by keys (expected_realm asked) content) (λ _. of_key_data keys asked (content_of content.info)) c.in_ok-check_signed.field-0 (as_secret c.take_key_data.result)
    c.in_ok-check_signed.ensures rest)

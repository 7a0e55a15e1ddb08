use Rattle.std.proofs.Common.{◌≡◌, ℕ, List, true, ap, sym, ◌∙◌, subst}
use Rattle.cms_signed_data.specs.GeneralContents.{content_of}
use Rattle.pkinit_validation.specs.GeneralTrust.{takes_digest}
use Rattle.pkinit_clients.specs.AgileReplies.{general_signed_by, is_general_key_data, no_sha1}
use Rattle.pkinit_clients.specs.Asked.{asked_of, expected_realm}
use Rattle.pkinit_clients.specs.Faults.{IsTakenAs, as_secret}
use Rattle.pkinit_clients.specs.Replies.{of_key_data}
use Rattle.pkinit_clients.proofs.TakenLemmas.{taken_then}
use Rattle.pkinit_clients.proofs.agility.reply.take_general_content.Goals as goal

pub returns : goal.returns
returns g c =
    let keys = g.K.KeyFunctions.functions c.args.keys.now in
    let asked = asked_of c.args.asked.now in
    let content = c.args.content.now in
    let kind : is_general_key_data content ≡ true = sym c.is_key_data.ensures ∙ c.if-not-is_key_data.false in
    let digest : takes_digest no_sha1 content.algorithm ≡ true =
    ap (takes_digest no_sha1) (sym c.digest_algorithm.ensures) ∙ sym c.is_sha2.ensures ∙ c.if-not-is_sha2.false in
    let rest : IsTakenAs (of_key_data keys asked (content_of content.info)).gives (as_secret c.take_key_data.result) =
    subst (λ (bytes : List ℕ). IsTakenAs (of_key_data keys asked bytes).gives (as_secret c.take_key_data.result)) c.content.ensures c.take_key_data.ensures in
    rw (kind, digest)
    (taken_then (general_signed_by keys (expected_realm asked) content) (λ _. of_key_data keys asked (content_of content.info)) c.in_ok-check_general.field-0 (as_secret c.take_key_data.result)
    c.in_ok-check_general.ensures rest)

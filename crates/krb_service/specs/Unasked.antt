-- Admission with an AP-REP in any case, as the exchange that changes a password has it (RFC 3244, section 2): its AP-REQ asks for none.
use Rattle.std.specs.Prelude.{◌≡◌, true, List, Some}
use Rattle.decision_tables.specs.Tables.{Table, and_then}
use Rattle.krb_ap_requests.specs.ApTable.{enc_part_in, presented}
use Rattle.krb_ap_requests.specs.Presents.{Choice}
use Rattle.krb_ap_requests.specs.declared.presented.Presented.{Presented}
use Rattle.krb_crypto.specs.Suites.{cipher_confounder_size}
use Rattle.krb_crypto.specs.declared.suite.CipherSuite.{CipherSuite}
use Rattle.krb_messages.specs.RandomBytes.{Random, ap_reply_confounder}
use Rattle.krb_tickets.specs.Keys.{suite_of}
use Rattle.krb_time.specs.Units.{Micros}
use Rattle.picky_asn1.specs.Bytes.{Bytes}
use Rattle.krb_service.specs.Admission.{AdmissionRecord}
use Rattle.krb_service.specs.ApReply.{IsReplyOf, ap_rep_part_with}
use Rattle.krb_service.specs.ChosenEntry.{chosen}
use Rattle.krb_service.specs.KeytabService.{KeytabServiceRecord}
use Rattle.krb_service.specs.Once.{once_with}
use Rattle.krb_service.specs.Pair.{PairRecord}
use Rattle.krb_service.specs.RememberingService.{Outcome, answering}
use Rattle.krb_service.specs.declared.reply.ReplyFields.{ReplyFields}

-- what was presented, as where the request asks for an AP-REP by mutual-required
abbrev pub asking : Presented → Presented
asking shown = record shown { wants_reply = true }

-- What a service of a keytab answers to bytes as `remembering_by_keytab_with` does, with an AP-REP also where the request asks for none (RFC
-- 3244, section 2). Test: `changed`, `changed, and asks for an AP-REP` of `password_replies.txt`.
unfoldable pub remembering_unasked : ReplyFields → KeytabServiceRecord → Micros → List PairRecord → Bytes → Random → Table Outcome
remembering_unasked fields service moment admitted message words =
    answering admitted message (λ request.
    and_then (presented (chosen service.entries (enc_part_in request)) service.seen.skew moment request) (λ shown.
    once_with fields service.seen.skew moment admitted words (asking shown)))

-- The admission has the AP-REP with these fields to what a client chose, encrypted under the session key (RFC 4120, section 3.2.4).
pub record IsRepliedTo (fields : ReplyFields) (words : Random) (choice : Choice) (admission : AdmissionRecord) : Type 0 where
  pub suite : CipherSuite
  pub session : suite_of choice.part.key.0 ≡ Some suite
  pub bytes : Bytes
  pub reply : admission.reply ≡ Some bytes
  pub is_reply : IsReplyOf suite choice.part.key.0.key_value.0 (ap_reply_confounder (cipher_confounder_size suite) words) (ap_rep_part_with fields suite words choice.authenticator) bytes

-- Which entry of a keytab judges a call's bytes (RFC 4120, section 3.2.3), and lists of entries that answer alike.
use Rattle.std.specs.Prelude.{◌≡◌, ◌↔◌, ℕ, List}
use Rattle.krb_messages.specs.Messages.{IsApReq}
use Rattle.krb_messages.specs.RandomBytes.{Random}
use Rattle.krb_messages.specs.declared.messages.ap_req.ApReqInner.{ApReqInner}
use Rattle.picky_asn1.specs.Bytes.{Bytes}
use Rattle.krb_ap_requests.specs.ApTable.{enc_part_in}
use Rattle.krb_ap_requests.specs.Entry.{EntryRecord}
use Rattle.krb_service.specs.ChosenEntry.{chosen}
use Rattle.krb_service.specs.Pair.{PairRecord}
use Rattle.krb_service.specs.RememberingService.{Outcome}
use Rattle.krb_service.specs.KeytabService.{KeytabServiceRecord, remembering_by_keytab}

-- the entry judges the bytes: if they are a request, it is the one that is chosen of these entries
abbrev pub JudgesOf : List EntryRecord → Bytes → EntryRecord → Type 0
JudgesOf entries message entry = (request : ApReqInner) → IsApReq message request → entry ≡ chosen entries (enc_part_in request)

-- bytes have the same outcomes with either list of entries
abbrev pub AnswerAlike : KeytabServiceRecord → List EntryRecord → List EntryRecord → Bytes → Type 0
AnswerAlike service entries others message =
    (moment : ℕ) (admitted : List PairRecord) (words : Random) (outcome : Outcome)
    → (remembering_by_keytab (record service { entries = entries }) moment admitted message words).gives outcome
    ↔ (remembering_by_keytab (record service { entries = others }) moment admitted message words).gives outcome

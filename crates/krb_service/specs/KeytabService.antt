-- A service whose keys are a keytab's (RFC 4120, section 3.2.3): its realm and name, its entries, and what it has seen.
use Rattle.std.specs.Prelude.{◌≡◌, ◌≤◌, ◌*◌, ◌||◌, not, nat_le, List, [], ◌∷◌, length, Result, Ok, Err, if◌then◌else◌}
use Rattle.std.specs.List.{All}
use Rattle.picky_asn1.specs.Bytes.{Bytes}
use Rattle.decision_tables.specs.Tables.{Table, ask, done}
use Rattle.krb_time.specs.Units.{Micros, Seconds}
use Rattle.krb_messages.specs.RandomBytes.{Random}
use Rattle.krb_messages.specs.Messages.{IsApReq, sole_ap_req}
use Rattle.krb_messages.specs.declared.messages.ap_req.ApReqInner.{ApReqInner}
use Rattle.krb_realm_accounts.specs.Names.{AreComponents, IsRealmName, are_components, is_realm_name}
use Rattle.krb_realm_accounts.specs.declared.settings.TheConstants.{SKEW_LIMIT}
use Rattle.krb_file_formats.specs.Entries.{Entry}
use Rattle.krb_ap_requests.specs.ApTable.{enc_part_in, presented}
use Rattle.krb_ap_requests.specs.Entry.{EntryRecord}
use Rattle.krb_ap_requests.specs.declared.presented.Presented.{Presented}
use Rattle.krb_ap_requests.specs.declared.refusal.AdmitRefusal.{AdmitRefusal}
use Rattle.krb_ap_requests.specs.declared.refusal.AdmitRefusal.TheVariants.{Unreadable, Krb, Memory}
use Rattle.krb_service.specs.Pair.{PairRecord}
use Rattle.krb_service.specs.RememberingService.{Outcome, remembering, remembering_with}
use Rattle.krb_service.specs.Seen.{IsWholeSeconds, SeenRecord}
use Rattle.krb_service.specs.Service.{IsServiceEntry, ServiceRecord}
use Rattle.krb_service.specs.ChosenEntry.{chosen}
use Rattle.krb_service.specs.KeytabEntries.{entries_of}
use Rattle.krb_service.specs.declared.reply.ReplyFields.{ReplyFields}
use Rattle.krb_service.specs.declared.keytab_service.refusal.KeytabServiceRefusal.{KeytabServiceRefusal}
use Rattle.krb_service.specs.declared.keytab_service.refusal.KeytabServiceRefusal.TheVariants.{BadName, BadSetting, NoKey}

-- A service of a keytab: its realm and name, its entries in their order, and the one replay cache.
pub record KeytabServiceRecord : Type 0 where
  pub realm : Bytes
  pub components : List Bytes
  pub entries : List EntryRecord
  pub seen : SeenRecord

-- the entry is one of a service of this realm and name
abbrev pub IsOwnEntry : Bytes → List Bytes → EntryRecord → Type 0
IsOwnEntry realm components entry = IsServiceEntry entry × (entry.realm ≡ realm) × (entry.components ≡ components)

-- realm and name are names, there is an entry, and each is one of the service
abbrev pub AreOwnEntries : Bytes → List Bytes → List EntryRecord → Type 0
AreOwnEntries realm components entries =
    IsRealmName realm × AreComponents components × (1 ≤ length entries) × All (IsOwnEntry realm components) entries

-- the service has a realm, a name and one or more entries, all its own, and its clock skew is whole seconds
abbrev pub IsKeytabService : KeytabServiceRecord → Type 0
IsKeytabService service = IsWholeSeconds service.seen.skew × AreOwnEntries service.realm service.components service.entries

-- a keytab gives entries
abbrev pub giving : List EntryRecord → Result (Unit {0}) KeytabServiceRefusal
giving entries = if nat_le 1 (length entries) then Ok tt else Err NoKey

-- whether a service is made of a keytab, in the order of refusals; the skew is a day at most
abbrev pub making : Bytes → List Bytes → List Entry → Seconds → Result (Unit {0}) KeytabServiceRefusal
making realm components keytab skew =
    if not (is_realm_name realm) || not (are_components components) then Err BadName
    else (if not (nat_le skew SKEW_LIMIT) then Err BadSetting else giving (entries_of realm components keytab))

-- the service that has seen nothing
abbrev pub made : Bytes → List Bytes → List Entry → Seconds → KeytabServiceRecord
made realm components keytab skew = record {
  realm = realm;
  components = components;
  entries = entries_of realm components keytab;
  seen = record { greatest = 0; skew = 1000000 * skew; held = [] };
}

-- the service of one key, that of the entry by which the request is judged, which has seen the same
abbrev pub service_for : KeytabServiceRecord → ApReqInner → ServiceRecord
service_for service request = record { entry = chosen service.entries (enc_part_in request); seen = service.seen }

-- the service of a keytab that has one entry: that of this service of one key
abbrev pub keytab_service_of : ServiceRecord → KeytabServiceRecord
keytab_service_of service =
    record { realm = service.entry.realm; components = service.entry.components; entries = service.entry ∷ []; seen = service.seen }

-- what a service of a keytab answers to bytes, by what the service of one key answers whose entry judges the request
abbrev pub by_chosen : KeytabServiceRecord → List PairRecord → Bytes → (ServiceRecord → Table Outcome) → Table Outcome
by_chosen service admitted message answer =
    -- The bytes are the DER encoding of one AP-REQ (RFC 4120, section 5.5.1). Test: `no request` of `keytab_rows.txt`.
    ask (IsApReq message) (sole_ap_req message) (done (Err Unreadable, admitted)) (λ request.
    -- Replay cache: a client and time that were admitted under one entry aren't admitted under another (RFC 4120, section 3.2.3).
    -- Test: `again under another key` of `keytab_rows.txt`.
    answer (service_for service request))

-- What a service of a keytab answers to bytes that has admitted these pairs, under whatever entry, and was handed this moment as the
-- greatest: what the service of one key answers whose entry judges the request (RFC 4120, section 3.2.3).
unfoldable pub remembering_by_keytab : KeytabServiceRecord → Micros → List PairRecord → Bytes → Random → Table Outcome
remembering_by_keytab service moment admitted message words =
    by_chosen service admitted message (λ one. remembering one moment admitted message words)

-- what it answers with these fields in its replies
unfoldable pub remembering_by_keytab_with : ReplyFields → KeytabServiceRecord → Micros → List PairRecord → Bytes → Random → Table Outcome
remembering_by_keytab_with fields service moment admitted message words =
    by_chosen service admitted message (λ one. remembering_with fields one moment admitted message words)

-- what bytes present by the entry that judges them, or what they are refused for, or that they are of no request; or memory ran out
unfoldable pub ReceivesByKeytab : List EntryRecord → Micros → Micros → Bytes → Result Presented AdmitRefusal → Type 0
ReceivesByKeytab entries skew moment message (Ok p) =
    (request : ApReqInner) × IsApReq message request × (presented (chosen entries (enc_part_in request)) skew moment request).gives (Ok p)
ReceivesByKeytab entries skew moment message (Err (Krb code)) =
    (request : ApReqInner) × IsApReq message request × (presented (chosen entries (enc_part_in request)) skew moment request).gives (Err code)
ReceivesByKeytab entries skew moment message (Err Unreadable) = (request : ApReqInner) → IsApReq message request → ⊥
ReceivesByKeytab entries skew moment message (Err Memory) = Unit {0}

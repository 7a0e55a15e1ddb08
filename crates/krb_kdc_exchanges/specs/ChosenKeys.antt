-- Which of an account's keys opens what is encrypted under one of them (RFC 4120, section 5.2.9).
use Rattle.std.specs.Prelude.{◌≡◌, Bool, true, false, [], ◌∷◌, Option, None, Some, if◌then◌else◌}
use Rattle.std.specs.List.{find}
use Rattle.std.proofs.Common.{refl, subst, sym}
use Rattle.krb_messages.specs.declared.data_types.enc_ticket_part.EncTicketPartInner.{EncTicketPartInner}
use Rattle.krb_messages.specs.declared.data_types.encrypted_data.EncryptedData.{EncryptedData}
use Rattle.krb_realm_accounts.specs.Account.{AccountKeyRecord, AccountRecord, keys_of, newest}
use Rattle.krb_ap_requests.specs.ApTable.{kvno_fits}
use Rattle.krb_ap_requests.specs.Messages.{IsTicketPart}

-- the key that was found, and else the account's own
abbrev pub or_newest : AccountRecord → Option AccountKeyRecord → AccountKeyRecord
or_newest account None = newest account
or_newest account (Some key) = key

-- The first key of the account, from the newest on, that has the kvno of the data. Data without a kvno are under the newest. Where no key has the
-- kvno, the newest is judged, and its kvno isn't that of the data.
abbrev pub chosen : EncryptedData → AccountRecord → AccountKeyRecord
chosen encrypted account = or_newest account (find (λ key. kvno_fits key.kvno encrypted) (keys_of account))

-- the data are this part of a ticket, encrypted under the account's key that has their kvno
abbrev pub OpensTicket : AccountRecord → EncryptedData → EncTicketPartInner → Type 0
OpensTicket account encrypted part = IsTicketPart (chosen encrypted account).suite (chosen encrypted account).key encrypted part

-- an account with one key has no choice
pub one_choice : (encrypted : EncryptedData) (account : AccountRecord) → account.former ≡ [] → chosen encrypted account ≡ newest account
one_choice encrypted account alone =
    subst (λ former. or_newest account (find (λ key. kvno_fits key.kvno encrypted) (newest account ∷ former)) ≡ newest account) (sym alone) (by (kvno_fits account.kvno encrypted))
  where
    by : (fits : Bool) → or_newest account (if fits then Some (newest account) else None) ≡ newest account
    by true = refl
    by false = refl

-- The session key of the AP-REQ that a TGS request carries, and the reply key.
use Rattle.std.specs.Prelude.{◌≡◌, Option, None, Some}
use Rattle.krb_crypto.specs.Keys.{KeyRecord}
use Rattle.krb_tickets.specs.ReplyKeys.{ReplyKeyRecord, tgs_reply_key, tgs_subkey_reply_key}
use Rattle.krb_kdc_exchanges.specs.declared.tgs_exchange.grant.OpenedApReq.{OpenedApReq}

-- the key is the session key of the ticket's part, of the suite that decrypted the authenticator
abbrev pub HasSessionKey : OpenedApReq → Type 0
HasSessionKey opened = opened.key.now ≡ record { suite = opened.authenticated.now.suite; bytes = opened.part.now.key.0.key_value.0 }

-- the reply key: the subkey where there is one, else the session key
abbrev pub under : KeyRecord → Option KeyRecord → ReplyKeyRecord
under session None = tgs_reply_key session.suite session.bytes
under session (Some subkey) = tgs_subkey_reply_key subkey.suite subkey.bytes

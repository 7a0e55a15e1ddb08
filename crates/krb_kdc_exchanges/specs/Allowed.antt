-- What the attributes of the accounts that a request involves allow (RFC 4120, sections 3.1.3, 3.3.3).
use Rattle.std.specs.Prelude.{◌&&◌, nat_lt, not, Bool, List, [], ◌∷◌, codes, min, Result, Ok, if◌then◌else◌}
use Rattle.krb_time.specs.Units.{Micros, Seconds}
use Rattle.picky_asn1.specs.Bytes.{Bytes}
use Rattle.krb_realm_accounts.specs.Account.{AccountRecord}
use Rattle.krb_constants.specs.declared.error_codes.TheConstants.{KDC_ERR_CLIENT_REVOKED, KDC_ERR_KEY_EXPIRED, KDC_ERR_NAME_EXP, KDC_ERR_POLICY, KDC_ERR_SERVICE_EXP, KDC_ERR_S_PRINCIPAL_UNKNOWN}
use Rattle.krb_messages.specs.Names.{components, is_same_name}
use Rattle.krb_messages.specs.Refusals.{Code}
use Rattle.decision_tables.specs.Tables.{Table, done, refuse}
use Rattle.krb_kdc_exchanges.specs.Grants.{Principals}
use Rattle.krb_kdc_exchanges.specs.Times.{start_of}

-- the account has ended: now is after its last second
abbrev pub has_ended : Micros → AccountRecord → Bool
has_ended moment account = nat_lt 0 account.attributes.ends && nat_lt account.attributes.ends (start_of moment)

-- the name is that of the service that changes passwords, `kadmin/changepw` (RFC 3244, section 2)
abbrev pub changes_passwords : List Bytes → Bool
changes_passwords name = is_same_name name (codes "kadmin" ∷ codes "changepw" ∷ [])

-- a first ticket for this service may be granted to this client
abbrev pub first_allowed : Micros → Principals → Table (Result (Unit {0}) Code)
first_allowed moment principals =
    -- The client's account hasn't ended (RFC 4120, section 7.5.9). Test: `as client ended`, `as client ends now`.
    refuse (has_ended moment principals.client) KDC_ERR_NAME_EXP
    -- The service's account hasn't ended (RFC 4120, section 7.5.9). Test: `as service ended`.
    (refuse (has_ended moment principals.service) KDC_ERR_SERVICE_EXP
    -- The client's password needn't be changed, but for a ticket for `kadmin/changepw` (RFC 4120, section 7.5.9; RFC 3244, section 2). Test:
    -- `as password to be changed`, `as password to be changed, changepw`.
    (refuse (principals.client.attributes.must_change && not (changes_passwords (components principals.service_name))) KDC_ERR_KEY_EXPIRED
    -- The client's account isn't switched off (RFC 4120, section 7.5.9). Test: `as client off`.
    (refuse principals.client.attributes.is_off KDC_ERR_CLIENT_REVOKED
    -- The service's account isn't switched off (RFC 4120, section 7.5.9). Test: `as service off`.
    (refuse principals.service.attributes.is_off KDC_ERR_S_PRINCIPAL_UNKNOWN
    -- There are tickets for the service's account (RFC 4120, section 7.5.9). Test: `as no service`.
    (refuse principals.service.attributes.is_no_service KDC_ERR_POLICY
    (done (Ok tt)))))))

-- a ticket for this service may be granted to this client of a presented ticket
abbrev pub further_allowed : Micros → AccountRecord → AccountRecord → Table (Result (Unit {0}) Code)
further_allowed moment client service =
    -- The client's account hasn't ended (RFC 4120, section 7.5.9). Test: `tgs client ended`.
    refuse (has_ended moment client) KDC_ERR_NAME_EXP
    -- The client's account isn't switched off (RFC 4120, section 7.5.9). Test: `tgs client off`.
    (refuse client.attributes.is_off KDC_ERR_CLIENT_REVOKED
    -- The service's account isn't switched off (RFC 4120, section 7.5.9). Test: `tgs service off`.
    (refuse service.attributes.is_off KDC_ERR_S_PRINCIPAL_UNKNOWN
    -- There are tickets for the service's account (RFC 4120, section 7.5.9). Test: `tgs no service`.
    (refuse service.attributes.is_no_service KDC_ERR_POLICY
    -- The service's account hasn't ended (RFC 4120, section 7.5.9). Test: `tgs service ended`.
    (refuse (has_ended moment service) KDC_ERR_SERVICE_EXP
    (done (Ok tt))))))

-- the greatest lifetime, where an account has one of its own
abbrev pub limited : AccountRecord → Seconds → Seconds
limited account lifetime = if nat_lt 0 account.attributes.lifetime then min lifetime account.attributes.lifetime else lifetime

-- the greatest lifetime of a ticket of this client, for this service
abbrev pub lifetime_of : Seconds → AccountRecord → AccountRecord → Seconds
lifetime_of lifetime client service = limited service (limited client lifetime)

-- Changes of the line of one account.
use Rattle.std.specs.Prelude.{◌≡◌, ℕ, ◌+◌, ◌==◌, ◌&&◌, not, Bool, true, false, if◌then◌else◌, List, [], ◌++◌, ◌∷◌, Option, None, Some, is_some, Result, Ok, Err, refl}
use Rattle.std.specs.List.{position_from}
use Rattle.picky_asn1.specs.Bytes.{Bytes}
use Rattle.krb_messages.specs.Names.{is_same_name}
use Rattle.krb_messages.specs.TicketGranting.{krbtgt_of}
use Rattle.krb_realm_accounts.specs.Account.{AccountRecord, kept}
use Rattle.krb_realm_accounts.specs.Accounts.{next_key, purged}
use Rattle.krb_realm_accounts.specs.declared.attributes.Attributes.{Attributes}
use Rattle.krb_crypto.specs.declared.suite.CipherSuite.{CipherSuite}
use Rattle.krb_account_texts.specs.Order.{realm_among}
use Rattle.krb_account_texts.specs.declared.edits.EditRefusal.{EditRefusal}
use Rattle.krb_account_texts.specs.declared.edits.EditRefusal.TheVariants as refusal
use Rattle.krb_account_texts.specs.declared.line.AccountLine.{AccountLine}
use Rattle.krb_account_texts.specs.declared.line.Line.{Line}
use Rattle.krb_account_texts.specs.declared.line.Line.TheVariants as line
use Rattle.krb_account_texts.specs.declared.line.RealmLine.{RealmLine}

-- The line is that of the account of this name.
abbrev pub is_line_of : List Bytes → Line → Bool
is_line_of name (line.Account own) = is_same_name own.name.name_string.0 name
is_line_of name _ = false

-- The place of the first line of an account of this name.
abbrev pub place_of : List Bytes → List Line → Option ℕ
place_of name = position_from (is_line_of name) 0

-- The new lines are the old ones with one more at some place.
abbrev pub HasOneMore : Line → List Line → List Line → Type 0
HasOneMore more old new = (front : List Line) × (back : List Line) × (old ≡ front ++ back) × (new ≡ front ++ more ∷ back)

-- The new lines are the old ones but for the line of an account of this name, which became another one.
abbrev pub HasChanged : List Bytes → (Line → Line) → List Line → List Line → Type 0
HasChanged name change old new =
    (front : List Line) × (own : Line) × (back : List Line) × (is_line_of name own ≡ true) × (old ≡ front ++ own ∷ back) × (new ≡ front ++ change own ∷ back)

-- The new lines are the old ones but for the line of an account of this name, which is no more there.
abbrev pub HasOneLess : List Bytes → List Line → List Line → Type 0
HasOneLess name old new =
    (front : List Line) × (own : Line) × (back : List Line) × (is_line_of name own ≡ true) × (old ≡ front ++ own ∷ back) × (new ≡ front ++ back)

-- The name is that of the ticket-granting service of this realm.
abbrev pub is_krbtgt : Bytes → List Bytes → Bool
is_krbtgt realm name = is_same_name name (krbtgt_of realm)

-- The realm of this line guards the password of an account of this name: the line has the word `guards-passwords`, and the name isn't that
-- of its own ticket-granting service, for which there are always tickets.
abbrev pub is_guarding : Option RealmLine → List Bytes → Bool
is_guarding None name = false
is_guarding (Some own) name = own.guards_passwords && not (is_krbtgt own.name name)

-- The realm of these lines does.
abbrev pub guards_password : List Bytes → List Line → Bool
guards_password name lines = is_guarding (realm_among lines) name

-- The account as a realm keeps it that guards its password or doesn't. Where it does, an account with a salt, whose key is of a password,
-- has the mark that there is no ticket for it as a service: by such a ticket its password could be guessed.
abbrev pub guarded_account : Bool → AccountRecord → AccountRecord
guarded_account guards own =
    if guards && is_some own.salt then record own { attributes = record own.attributes { is_no_service = true } } else own

-- Where no realm guards its password, an account stays as it is.
unguarded : (own : AccountRecord) → guarded_account false own ≡ own
unguarded own = refl

-- The line of an account that is added to the lines of a realm that guards its password or doesn't.
abbrev pub added_line : Bool → AccountLine → Line
added_line guards own =
    line.Account (record { name = own.name; account = guarded_account guards own.account; is_disabled = own.is_disabled })

-- The account with its next key, and none before it: the kvno is higher by one. Its attributes stay, but its password needn't be changed
-- any more.
abbrev pub next_account : CipherSuite → Bytes → Option Bytes → AccountRecord → AccountRecord
next_account suite key salt own = record (next_key suite key own) { salt = salt }

-- The account with its next key, which keeps the keys before.
abbrev pub kept_account : CipherSuite → Bytes → Option Bytes → AccountRecord → AccountRecord
kept_account suite key salt own = record (next_account suite key salt own) { former = kept own }

-- The line of an account with its next key, in a realm that guards its password or doesn't. The name stays, and whether it is disabled.
abbrev pub rekeyed : Bool → CipherSuite → Bytes → Option Bytes → Line → Line
rekeyed guards suite key salt (line.Account own) =
    line.Account (record { name = own.name; account = guarded_account guards (next_account suite key salt own.account); is_disabled = own.is_disabled })
rekeyed guards suite key salt other = other

-- The line of an account with its next key, which keeps the keys before.
abbrev pub rekeyed_keeping : Bool → CipherSuite → Bytes → Option Bytes → Line → Line
rekeyed_keeping guards suite key salt (line.Account own) =
    line.Account (record { name = own.name; account = guarded_account guards (kept_account suite key salt own.account); is_disabled = own.is_disabled })
rekeyed_keeping guards suite key salt other = other

-- The line of an account without the keys before its own.
abbrev pub purged_line : Line → Line
purged_line (line.Account own) = line.Account (record { name = own.name; account = purged own.account; is_disabled = own.is_disabled })
purged_line other = other

-- The line of an account with these attributes in place of its own.
abbrev pub allowed_line : Attributes → Line → Line
allowed_line attributes (line.Account own) =
    line.Account (record { name = own.name; account = record own.account { attributes = attributes }; is_disabled = own.is_disabled })
allowed_line attributes other = other

-- The name is that of the ticket-granting service of the realm of this line, if there is one.
abbrev pub is_service_of : Option RealmLine → List Bytes → Bool
is_service_of None name = false
is_service_of (Some own) name = is_krbtgt own.name name

-- Whether the name has an account.
abbrev pub staying : List Bytes → List Line → Result (Unit {0}) EditRefusal
staying name lines = if is_some (place_of name lines) then Ok tt else Err refusal.Unknown

-- Whether the account of this name may leave the database, in the order of refusals. That of the ticket-granting service is kept.
abbrev pub leaving : List Bytes → List Line → Result (Unit {0}) EditRefusal
leaving name lines =
    if is_some (place_of name lines) then (if is_service_of (realm_among lines) name then Err refusal.KeptAccount else Ok tt)
    else Err refusal.Unknown

-- The line of an account that is disabled or isn't. Name and account stay.
abbrev pub marked : Bool → Line → Line
marked is_disabled (line.Account own) = line.Account (record { name = own.name; account = own.account; is_disabled = is_disabled })
marked is_disabled other = other

-- The realm's line with what logins by certificate are answered by, or with nothing. Name and settings stay, and whether it guards
-- passwords.
abbrev pub certified : Option Bytes → Line → Line
certified pkinit (line.Realm own) =
    line.Realm (record { name = own.name; settings = own.settings; guards_passwords = own.guards_passwords; pkinit = pkinit })
certified pkinit other = other

-- The line is a realm's.
abbrev pub is_realm : Line → Bool
is_realm (line.Realm own) = true
is_realm other = false

-- The place of the first line of a realm.
abbrev pub realm_place : List Line → Option ℕ
realm_place = position_from is_realm 0

-- The new lines are the old ones but for the line of a realm, which has this in place of what logins by certificate were answered by.
abbrev pub HasCertified : Option Bytes → List Line → List Line → Type 0
HasCertified pkinit old new =
    (front : List Line) × (own : Line) × (back : List Line) × (is_realm own ≡ true) × (old ≡ front ++ own ∷ back) × (new ≡ front ++ certified pkinit own ∷ back)

-- The kvno of the line's account is the greatest of 32 bits.
abbrev pub is_spent : Line → Bool
is_spent (line.Account own) = own.account.kvno == 4294967295
is_spent other = false

-- The first account of this name, if there is one, has the greatest kvno.
abbrev pub is_name_spent : List Bytes → List Line → Bool
is_name_spent name [] = false
is_name_spent name (own ∷ lines) = if is_line_of name own then is_spent own else is_name_spent name lines

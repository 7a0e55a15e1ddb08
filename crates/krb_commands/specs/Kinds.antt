-- The kinds of files: how long one may be, and what its first octets show of its kind.
use Rattle.std.specs.Prelude.{ℕ, zero, suc, ◌+◌, ◌*◌, ◌==◌, ◌&&◌, ◌||◌, not, nat_eq, nat_lt, Bool, true, false, List, [], ◌∷◌, length, if◌then◌else◌}
use Rattle.std.specs.List.{starts_with}
use Rattle.byte_streams.specs.Numbers.{le32_at}
use Rattle.cdb.specs.declared.format.TheConstants.{HEADER_SIZE, PAIR_SIZE, TABLES}
use Rattle.krb_commands.specs.declared.kinds.FileKind.{FileKind}
use Rattle.krb_commands.specs.declared.kinds.FileKind.TheVariants.{Accounts, Database, Keytab, Cache, Certificate, PrivateKey, Settings}
use Rattle.krb_commands.specs.declared.kinds.TheConstants.{ACCOUNTS_LIMIT, KEYS_LIMIT, REALM_WORD, SMALL_LIMIT}

-- how many octets a file may have
abbrev pub limit_of : FileKind → ℕ
limit_of Accounts = ACCOUNTS_LIMIT
limit_of Database = ACCOUNTS_LIMIT
limit_of Keytab = KEYS_LIMIT
limit_of Cache = KEYS_LIMIT
limit_of Certificate = SMALL_LIMIT
limit_of PrivateKey = SMALL_LIMIT
limit_of Settings = SMALL_LIMIT

abbrev pub begins_with : List ℕ → List ℕ → Bool
begins_with start octets = starts_with nat_eq octets start

-- The octets from the first line on that doesn't begin with `#` (35). It begins behind a line feed (10), or where there are no comments.
abbrev pub behind_comments : Bool → List ℕ → List ℕ
behind_comments is_comment [] = []
behind_comments true (octet ∷ octets) = behind_comments (not (octet == 10)) octets
behind_comments false (octet ∷ octets) = if octet == 35 then behind_comments true octets else octet ∷ octets

-- The front of a text of accounts: the first line that is no comment begins as that of a realm. Comments alone don't show another kind.
abbrev pub is_accounts : List ℕ → Bool
is_accounts front = let lines = behind_comments false front in nat_eq (length lines) 0 || begins_with REALM_WORD.now lines

-- The hash tables of this many pointers from `place` on stand one behind the other, the first at `start`. A pointer is the position of a
-- table and the count of its slots.
abbrev pub are_joined : ℕ → ℕ → ℕ → List ℕ → Bool
are_joined zero place start front = true
are_joined (suc count) place start front =
    (le32_at place front == start) && are_joined count (place + PAIR_SIZE) (start + le32_at (place + 4) front * PAIR_SIZE) front

-- All hash tables of a header stand one behind the other, the first at `start`.
unfoldable pub all_joined : ℕ → List ℕ → Bool
all_joined start front = are_joined TABLES 0 start front

-- The front of a database: the header of a constant database. Its first hash table follows the header.
abbrev pub is_header : List ℕ → Bool
is_header front = not (nat_lt (le32_at 0 front) HEADER_SIZE) && all_joined (le32_at 0 front) front

abbrev pub is_database : List ℕ → Bool
is_database front = not (nat_lt (length front) HEADER_SIZE) && is_header front

-- the front of a keytab: version 0x0502
abbrev pub is_keytab : List ℕ → Bool
is_keytab front = begins_with (5 ∷ 2 ∷ []) front

-- the front of a credential cache: version 0x0503 or 0x0504
abbrev pub is_cache : List ℕ → Bool
is_cache front = begins_with (5 ∷ 3 ∷ []) front || begins_with (5 ∷ 4 ∷ []) front

-- A file with these first octets is of this kind, as far as they show it. None is of a kind that no command writes.
abbrev pub is_of_kind : FileKind → List ℕ → Bool
is_of_kind Accounts front = is_accounts front
is_of_kind Database front = is_database front
is_of_kind Keytab front = is_keytab front
is_of_kind Cache front = is_cache front
is_of_kind Certificate front = false
is_of_kind PrivateKey front = false
is_of_kind Settings front = false

-- A file says what it was written of.
use Rattle.std.proofs.Common.{◌≡◌, ℕ, List, [], ◌∷◌, ◌++◌, Option, None, Some, Result, Ok, Bool, true, false, nat_eq, if◌then◌else◌, refl, sym, ap, ◌∙◌}
use Rattle.std.proofs.lemmas.Bool.{and_parts, eqb-true}
use Rattle.std.specs.Cmp.Lexicographic.{pointwise}
use Rattle.krb_realm_accounts.specs.Account.{AccountRecord}
use Rattle.krb_realm_accounts.specs.Packed.{fit, packed, unpacked, unpacked-packed}
use Rattle.cdb.specs.Find.{looked_up}
use Rattle.cdb.specs.Records.{answer}
use Rattle.cdb.specs.declared.records.Record.{Record}
use Rattle.krb_kdc.specs.declared.fault.LookupFault.{LookupFault}
use Rattle.krb_realm_files.specs.declared.format.TheConstants.{RECORD_ROOM}
use Rattle.krb_realm_files.specs.declared.realm_parameters.RealmParameters.{RealmParameters}
use Rattle.krb_realm_files.specs.declared.writing.NamedAccount.{NamedAccount}
use Rattle.krb_realm_files.specs.AccountRecords.{account_in}
use Rattle.krb_realm_files.specs.Files.{account_found, account_or_none, account_said, realm_found, realm_key, realm_said}
use Rattle.krb_realm_files.specs.Named.{AreNamed, AreRecords, IsRealmRecord, IsRecordOf, look_among}
use Rattle.krb_realm_files.specs.Reading.{or_damaged}
use Rattle.krb_realm_files.specs.RealmRecords.{realm_in}
use Rattle.krb_realm_files.proofs.Said.{fitting, unfit}

same_list : (a b : List ℕ) → pointwise nat_eq a b ≡ true → a ≡ b
same_list [] [] e = refl
same_list [] (y ∷ b) e = absurd (cc (e))
same_list (x ∷ a) [] e = absurd (cc (e))
same_list (x ∷ a) (y ∷ b) e =
    let parts = and_parts (nat_eq x y) (pointwise nat_eq a b) e in
    let first : x ≡ y = eqb-true x y parts.0 in
    let rest : a ≡ b = same_list a b parts.1 in
    cc

-- The key of the realm's record is no name's block: such a block would have no texts, and so no octet.
no_block : (name : List (List ℕ)) → packed name ≡ realm_key → ⊥
no_block name e =
    let none : name ≡ [] = sym (unpacked-packed name) ∙ ap unpacked e in
    let empty : [] ≡ realm_key = sym (ap packed none) ∙ e in
    absurd (cc (empty))

unequal : (same : Bool) → (same ≡ true → ⊥) → same ≡ false
unequal true other = absurd (other refl)
unequal false other = refl

realm_apart : (name : List (List ℕ)) → pointwise nat_eq realm_key (packed name) ≡ false
realm_apart name = unequal (pointwise nat_eq realm_key (packed name)) (λ e. no_block name (sym (same_list realm_key (packed name) e)))

name_apart : (name : List (List ℕ)) → pointwise nat_eq (packed name) realm_key ≡ false
name_apart name = unequal (pointwise nat_eq (packed name) realm_key) (λ e. no_block name (same_list (packed name) realm_key e))

-- one more record
pub one_more : (accounts : List NamedAccount) (records : List Record) (one : NamedAccount) (r : Record) → AreRecords accounts records → IsRecordOf one.name.items one.account r
    → AreRecords (accounts ++ one ∷ []) (records ++ r ∷ [])
one_more [] [] one r are is = (is, tt)
one_more [] (s ∷ records) one r are is = absurd are
one_more (other ∷ accounts) [] one r are is = absurd are
one_more (other ∷ accounts) (s ∷ records) one r are is = (are.0, one_more accounts records one r are.1 is)

-- each name is one of a principal
pub are_named : (accounts : List NamedAccount) (records : List Record) → AreRecords accounts records → AreNamed accounts
are_named [] records are = tt
are_named (one ∷ accounts) [] are = absurd are
are_named (one ∷ accounts) (r ∷ records) are = (are.0.named, are_named accounts records are.1)

-- what was found under a key
abbrev account_read : Option (List ℕ) → Result (Option AccountRecord) LookupFault
account_read found = account_found (Ok found)

module _ (realm : RealmParameters) (own : Record) (is_realm : IsRealmRecord realm own) where
  -- what the records answer of a name's block is the name's account
  answered : (accounts : List NamedAccount) (records : List Record) (name : List (List ℕ)) → AreRecords accounts records
      → account_read (answer (records ++ own ∷ []) (packed name)) ≡ Ok (look_among accounts name)
  answered [] [] name are =
      ap (λ key. account_read (if pointwise nat_eq key (packed name) then Some own.content.items else None)) is_realm.key
      ∙ ap (λ (same : Bool). account_read (if same then Some own.content.items else None)) (realm_apart name)
  answered [] (r ∷ records) name are = absurd are
  answered (one ∷ accounts) [] name are = absurd are
  answered (one ∷ accounts) (r ∷ records) name are =
      ap (λ key. account_read (if pointwise nat_eq key (packed name) then Some r.content.items else answer (records ++ own ∷ []) (packed name))) are.0.key
      ∙ by (pointwise nat_eq (packed one.name.items) (packed name)) (answered accounts records name are.1)
    where
      by : (same : Bool) → account_read (answer (records ++ own ∷ []) (packed name)) ≡ Ok (look_among accounts name)
          → account_read (if same then Some r.content.items else answer (records ++ own ∷ []) (packed name)) ≡ Ok (if same then Some one.account else look_among accounts name)
      by true rest = ap (λ octets. account_or_none (account_in octets)) are.0.content ∙ ap account_or_none are.0.again
      by false rest = rest

  -- what they answer of the realm's key is the realm's record
  answered_realm : (accounts : List NamedAccount) (records : List Record) → AreRecords accounts records → answer (records ++ own ∷ []) realm_key ≡ Some own.content.items
  answered_realm [] [] are = ap (λ key. if pointwise nat_eq key realm_key then Some own.content.items else None) is_realm.key
  answered_realm [] (r ∷ records) are = absurd are
  answered_realm (one ∷ accounts) [] are = absurd are
  answered_realm (one ∷ accounts) (r ∷ records) are =
      ap (λ key. if pointwise nat_eq key realm_key then Some r.content.items else answer (records ++ own ∷ []) realm_key) are.0.key
      ∙ ap (λ (same : Bool). if same then Some r.content.items else answer (records ++ own ∷ []) realm_key) (name_apart one.name.items)
      ∙ answered_realm accounts records are.1

  -- a name that no principal has is given no account
  unfit_among : (accounts : List NamedAccount) (records : List Record) (name : List (List ℕ)) → AreRecords accounts records → fit name ≡ false → None ≡ look_among accounts name
  unfit_among [] records name are long = refl
  unfit_among (one ∷ accounts) [] name are long = absurd are
  unfit_among (one ∷ accounts) (r ∷ records) name are long = by (pointwise nat_eq (packed one.name.items) (packed name)) refl (unfit_among accounts records name are.1 long)
    where
      by : (same : Bool) → pointwise nat_eq (packed one.name.items) (packed name) ≡ same → None ≡ look_among accounts name
          → None ≡ (if same then Some one.account else look_among accounts name)
      by true e rest =
          let names : one.name.items ≡ name = sym (unpacked-packed one.name.items) ∙ ap unpacked (same_list (packed one.name.items) (packed name) e) ∙ unpacked-packed name in
          let short : fit name ≡ true = ap fit (sym names) ∙ are.0.fits in
          absurd (cc (short, long))
      by false e rest = rest

  pub says_accounts : (accounts : List NamedAccount) (records : List Record) (bytes : List ℕ) → AreRecords accounts records
      → ((key : List ℕ) → looked_up RECORD_ROOM bytes key ≡ Ok (answer (records ++ own ∷ []) key)) → (name : List (List ℕ)) → account_said bytes name ≡ Ok (look_among accounts name)
  says_accounts accounts records bytes are all name = by (fit name) refl
    where
      by : (fits : Bool) → fit name ≡ fits → account_said bytes name ≡ Ok (look_among accounts name)
      by true e = sym (fitting bytes name e) ∙ ap account_found (all (packed name)) ∙ answered accounts records name are
      by false e = unfit bytes name e ∙ ap Ok (unfit_among accounts records name are e)

  pub says_realm : (accounts : List NamedAccount) (records : List Record) (bytes : List ℕ) → AreRecords accounts records
      → ((key : List ℕ) → looked_up RECORD_ROOM bytes key ≡ Ok (answer (records ++ own ∷ []) key)) → realm_said bytes ≡ Ok realm
  unfolding realm_said
  says_realm accounts records bytes are all =
      ap realm_found (all realm_key) ∙ ap (λ found. realm_found (Ok found)) (answered_realm accounts records are)
      ∙ ap (λ octets. or_damaged (realm_in octets)) is_realm.content ∙ ap or_damaged is_realm.again

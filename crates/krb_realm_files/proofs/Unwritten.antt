-- Why no file of a realm and accounts is written.
use Rattle.std.proofs.Common.{◌≡◌, ◌⊎◌, ◌<◌, inl, inr, ℕ, false, List, [], ◌∷◌, ◌++◌, Any, length, get_or, sym, subst}
use Rattle.cdb.specs.Writing.{IsWriteFault}
use Rattle.cdb.specs.declared.records.Record.{Record}
use Rattle.cdb.specs.declared.writing.WriteFault.{WriteFault}
use Rattle.cdb.specs.declared.writing.WriteFault.TheVariants.{Large, Memory, Unsound}
use Rattle.krb_realm_accounts.specs.Names.{are_components}
use Rattle.krb_realm_files.specs.RealmRecords.{is_recorded}
use Rattle.krb_realm_files.specs.declared.format.TheConstants.{RECORD_ROOM}
use Rattle.krb_realm_files.specs.declared.realm_parameters.RealmParameters.{RealmParameters}
use Rattle.krb_realm_files.specs.declared.writing.NamedAccount.{NamedAccount}
use Rattle.krb_realm_files.specs.Named.{AreRecords, IsAccountsFault, IsRealmRecord, IsRecordsFault, IsUnnamed}

-- the realm has no record
pub no_realm : (realm : RealmParameters) (records : List Record) (fault : WriteFault) → (fault ≡ Memory) ⊎ ((fault ≡ Unsound) × (is_recorded realm ≡ false)) → IsRecordsFault realm records fault
no_realm realm records fault (inl memory) = subst (IsRecordsFault realm records) (sym memory) tt
no_realm realm records fault (inr unsound) = subst (IsRecordsFault realm records) (sym unsound.0) (inl unsound.1)

-- no database is written of the records
pub no_database : (realm : RealmParameters) (records all : List Record) (own : Record) (fault : WriteFault) → IsRealmRecord realm own → all ≡ records ++ own ∷ [] → IsWriteFault RECORD_ROOM all fault
    → IsRecordsFault realm records fault
no_database realm records all own Large is all_are why = (own, is, subst (λ (r : List Record). IsWriteFault RECORD_ROOM r Large) all_are why)
no_database realm records all own Unsound is all_are why = inr (own, is, subst (λ (r : List Record). IsWriteFault RECORD_ROOM r Unsound) all_are why)
no_database realm records all own Memory is all_are why = tt

-- an account has no record
pub no_record : (realm : RealmParameters) (accounts : List NamedAccount) (fault : WriteFault) → (fault ≡ Memory) ⊎ ((fault ≡ Unsound) × Any IsUnnamed accounts) → IsAccountsFault realm accounts fault
no_record realm accounts fault (inl memory) = subst (IsAccountsFault realm accounts) (sym memory) tt
no_record realm accounts fault (inr unsound) = subst (IsAccountsFault realm accounts) (sym unsound.0) (inl unsound.1)

-- no file is written of the records of accounts
pub no_file : (realm : RealmParameters) (accounts : List NamedAccount) (records : List Record) (fault : WriteFault) → AreRecords accounts records → IsRecordsFault realm records fault
    → IsAccountsFault realm accounts fault
no_file realm accounts records Large are why = (records, are, why)
no_file realm accounts records Unsound are (inl unrecorded) = inr (inl unrecorded)
no_file realm accounts records Unsound are (inr unsound) = inr (inr (records, are, unsound))
no_file realm accounts records Memory are why = tt

-- one of the accounts has no name of a principal
pub unnamed : (accounts : List NamedAccount) (index : ℕ) (one : NamedAccount) (fault : WriteFault) → index < length accounts → one ≡ get_or accounts index one
    → (fault ≡ Memory) ⊎ ((fault ≡ Unsound) × (are_components one.name.items ≡ false)) → (fault ≡ Memory) ⊎ ((fault ≡ Unsound) × Any IsUnnamed accounts)
unnamed accounts index one fault lt is (inl memory) = inl memory
unnamed accounts index one fault lt is (inr why) = inr (why.0, (index, one, lt, sym is, why.1))

-- What a client takes of a realm's reply was read of its bytes, and opened under its key.
use Rattle.std.proofs.Common.{◌≡◌, ◌⊎◌, ℕ, Bool, true, false, not, List, Option, None, Some, Result, Ok, Err, inl, inr, refl}
use Rattle.picky_asn1.specs.Bytes.{Bytes}
use Rattle.decision_tables.specs.Tables.{Table, and_then, ask, done, need, refuse}
use Rattle.krb_crypto.specs.Keys.{KeyRecord}
use Rattle.krb_crypto.specs.declared.suite.CipherSuite.{CipherSuite}
use Rattle.krb_messages.specs.Messages.{IsAsRep, IsTgsRep}
use Rattle.krb_messages.specs.declared.messages.enc_kdc_rep_part.EncKdcRepPart.{EncKdcRepPart}
use Rattle.krb_messages.specs.declared.messages.kdc_rep.KdcRep.{KdcRep}
use Rattle.krb_tickets.specs.Answers.{is_answer}
use Rattle.krb_tickets.specs.Keys.{suite_of}
use Rattle.krb_client.specs.Asked.{AsAskedRecord, TgsAskedRecord}
use Rattle.krb_client.specs.AsReply.{IsAsPart, takes_as_reply, takes_reply, takes_sealed}
use Rattle.krb_client.specs.Client.{ClientRecord, CredentialRecord}
use Rattle.krb_client.specs.Means.{MeansRecord}
use Rattle.krb_client.specs.Taking.{IsTgsPart, Taken, credential_of, is_of_type, sole_tgs_part, takes_part}
use Rattle.krb_client.specs.TgsReply.{takes_further, takes_tgs_reply}
use Rattle.krb_client.specs.declared.refusal.TakeRefusal.{TakeRefusal}
use Rattle.krb_client.specs.declared.refusal.TakeRefusal.TheVariants.{NotAsked, NotSealed, Unreadable}

abbrev Gave : CredentialRecord → Taken
Gave credential = Ok credential

abbrev Gave_none : TakeRefusal → Taken
Gave_none refusal = Err refusal

ok_credential : (a b : CredentialRecord) → Gave a ≡ Gave b → a ≡ b
ok_credential a b e = cc (e)

-- past a case that refuses, and past one that needs a value
pub past_case : {T : Type 0} (case : Bool) (error : TakeRefusal) (rest : Table (Result T TakeRefusal)) (value : T) → (refuse case error rest).gives (Ok value) → (case ≡ false) × rest.gives (Ok value)
past_case true error rest value x = absurd (cc (x))
past_case false error rest value x = (refl, x)

needed : (option : Option CipherSuite) (error : TakeRefusal) (rest : CipherSuite → Table Taken) (credential : CredentialRecord) → (need option error rest).gives (Ok credential)
    → (suite : CipherSuite) × (option ≡ Some suite) × (rest suite).gives (Ok credential)
needed None error rest credential x = absurd (cc (x))
needed (Some suite) error rest credential x = (suite, refl, x)

pub is_so : (b : Bool) → not b ≡ false → b ≡ true
is_so true e = refl
is_so false e = absurd (cc (e))

-- the part answers the client's request, and gives the credential
pub record IsPartTaken (client : ClientRecord) (service : List Bytes) (nonce : ℕ) (reply : KdcRep) (part : EncKdcRepPart) (credential : CredentialRecord) : Type 0 where
  pub answers : is_answer client.realm client.components service nonce reply part ≡ true
  pub suite : CipherSuite
  pub found : suite_of part.key.0 ≡ Some suite
  pub is : credential ≡ credential_of reply part suite

abbrev granting : KdcRep → EncKdcRepPart → CipherSuite → Table Taken
granting reply part suite = done (Ok (credential_of reply part suite))

part_taken : (client : ClientRecord) (service : List Bytes) (nonce : ℕ) (reply : KdcRep) (part : EncKdcRepPart) (credential : CredentialRecord)
    → (takes_part client service nonce reply part).gives (Ok credential) → IsPartTaken client service nonce reply part credential
part_taken client service nonce reply part credential x =
    let answered = past_case {T = CredentialRecord} (not (is_answer client.realm client.components service nonce reply part)) NotAsked (need (suite_of part.key.0) NotAsked (granting reply part)) credential x in
    let found = needed (suite_of part.key.0) NotAsked (granting reply part) credential answered.1 in
    record {
      answers = is_so (is_answer client.realm client.components service nonce reply part) answered.0;
      suite = found.0;
      found = found.1;
      is = ok_credential credential (credential_of reply part found.0) found.2;
    }

-- by a part that is opened, or it isn't taken
opened : (P : EncKdcRepPart → Type 0) (client : ClientRecord) (service : List Bytes) (nonce : ℕ) (reply : KdcRep) (credential : CredentialRecord) (error : TakeRefusal)
    → ((part : EncKdcRepPart) × P part × (takes_part client service nonce reply part).gives (Ok credential)) ⊎ (((part : EncKdcRepPart) → P part → ⊥) × (Gave credential ≡ Gave_none error))
    → (part : EncKdcRepPart) × P part × IsPartTaken client service nonce reply part credential
opened P client service nonce reply credential error (inl x) = (x.0, x.1, part_taken client service nonce reply x.0 credential x.2)
opened P client service nonce reply credential error (inr x) = absurd (cc (x.1))

-- a part with either tag is encrypted under the key of an AS reply
abbrev pub IsFirstPart : KeyRecord → KdcRep → EncKdcRepPart → Type 0
IsFirstPart key reply part = IsAsPart key.suite key.bytes reply.enc_part.0 part ⊎ IsTgsPart key.suite key.bytes 3 reply.enc_part.0 part

sealed_taken : (client : ClientRecord) (key : KeyRecord) (asked : AsAskedRecord) (reply : KdcRep) (credential : CredentialRecord) → (takes_sealed client key asked reply).gives (Ok credential)
    → (part : EncKdcRepPart) × IsFirstPart key reply part × IsPartTaken client asked.service asked.nonce reply part credential
sealed_taken client key asked reply credential (inl x) = (x.0, inl x.1, part_taken client asked.service asked.nonce reply x.0 credential x.2)
sealed_taken client key asked reply credential (inr x) =
    let own = opened (IsTgsPart key.suite key.bytes 3 reply.enc_part.0) client asked.service asked.nonce reply credential NotSealed x.1 in
    (own.0, inr own.1, own.2)

-- what is taken of a reply to an AS request
pub record IsFirstTakenOf (client : ClientRecord) (means : MeansRecord) (asked : AsAskedRecord) (bytes : Bytes) (credential : CredentialRecord) : Type 0 where
  pub reply : KdcRep
  pub read : IsAsRep bytes reply
  pub key : KeyRecord
  pub keyed : (means.reply_key client asked reply).gives (Ok key)
  pub part : EncKdcRepPart
  pub opens : IsFirstPart key reply part
  pub taken : IsPartTaken client asked.service asked.nonce reply part credential

abbrev keyed_by : ClientRecord → AsAskedRecord → KdcRep → KeyRecord → Table Taken
keyed_by client asked reply key = takes_sealed client key asked reply

abbrev by_means : ClientRecord → MeansRecord → AsAskedRecord → KdcRep → Table Taken
by_means client means asked reply = and_then (means.reply_key client asked reply) (keyed_by client asked reply)

by_key : (client : ClientRecord) (means : MeansRecord) (asked : AsAskedRecord) (bytes : Bytes) (reply : KdcRep) (credential : CredentialRecord) → IsAsRep bytes reply
    → (by_means client means asked reply).gives (Ok credential) → IsFirstTakenOf client means asked bytes credential
by_key client means asked bytes reply credential read (inl x) =
    let own = sealed_taken client x.0 asked reply credential x.2 in
    record { reply = reply; read = read; key = x.0; keyed = x.1; part = own.0; opens = own.1; taken = own.2 }
by_key client means asked bytes reply credential read (inr x) = absurd (cc (x.2))

as_read : (client : ClientRecord) (means : MeansRecord) (asked : AsAskedRecord) (bytes : Bytes) (credential : CredentialRecord)
    → ((reply : KdcRep) × IsAsRep bytes reply × (takes_reply client means asked reply).gives (Ok credential)) ⊎ (((reply : KdcRep) → IsAsRep bytes reply → ⊥) × (Gave credential ≡ Gave_none Unreadable))
    → IsFirstTakenOf client means asked bytes credential
as_read client means asked bytes credential (inl x) =
    by_key client means asked bytes x.0 credential x.1 (past_case {T = CredentialRecord} (not (is_of_type 11 x.0.pvno.0 x.0.msg_type.0)) Unreadable (by_means client means asked x.0) credential x.2).1
as_read client means asked bytes credential (inr x) = absurd (cc (x.1))

pub first_taken_of : (client : ClientRecord) (means : MeansRecord) (asked : AsAskedRecord) (bytes : Bytes) (credential : CredentialRecord) → (takes_as_reply client means asked bytes).gives (Ok credential)
    → IsFirstTakenOf client means asked bytes credential
unfolding takes_as_reply
first_taken_of client means asked bytes credential (inl x) = absurd (cc (x.2))
first_taken_of client means asked bytes credential (inr x) = as_read client means asked bytes credential x.1

-- what is taken of a reply to a TGS request
pub record IsFurtherTakenOf (client : ClientRecord) (asked : TgsAskedRecord) (bytes : Bytes) (credential : CredentialRecord) : Type 0 where
  pub reply : KdcRep
  pub read : IsTgsRep bytes reply
  pub part : EncKdcRepPart
  pub opens : IsTgsPart asked.suite asked.key 8 reply.enc_part.0 part
  pub taken : IsPartTaken client asked.service asked.nonce reply part credential

abbrev opening : ClientRecord → TgsAskedRecord → KdcRep → Table Taken
opening client asked reply =
    ask (IsTgsPart asked.suite asked.key 8 reply.enc_part.0) (sole_tgs_part asked.suite asked.key 8 reply.enc_part.0) (done (Err NotSealed)) (takes_part client asked.service asked.nonce reply)

tgs_read : (client : ClientRecord) (asked : TgsAskedRecord) (bytes : Bytes) (credential : CredentialRecord)
    → ((reply : KdcRep) × IsTgsRep bytes reply × (takes_further client asked reply).gives (Ok credential)) ⊎ (((reply : KdcRep) → IsTgsRep bytes reply → ⊥) × (Gave credential ≡ Gave_none Unreadable))
    → IsFurtherTakenOf client asked bytes credential
tgs_read client asked bytes credential (inl x) =
    let reply : KdcRep = x.0 in
    let judged = past_case {T = CredentialRecord} (not (is_of_type 13 reply.pvno.0 reply.msg_type.0)) Unreadable (opening client asked reply) credential x.2 in
    let own = opened (IsTgsPart asked.suite asked.key 8 reply.enc_part.0) client asked.service asked.nonce reply credential NotSealed judged.1 in
    record { reply = reply; read = x.1; part = own.0; opens = own.1; taken = own.2 }
tgs_read client asked bytes credential (inr x) = absurd (cc (x.1))

pub further_taken_of : (client : ClientRecord) (asked : TgsAskedRecord) (bytes : Bytes) (credential : CredentialRecord) → (takes_tgs_reply client asked bytes).gives (Ok credential)
    → IsFurtherTakenOf client asked bytes credential
unfolding takes_tgs_reply
further_taken_of client asked bytes credential (inl x) = absurd (cc (x.2))
further_taken_of client asked bytes credential (inr x) = tgs_read client asked bytes credential x.1

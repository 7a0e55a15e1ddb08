-- What a client takes of a reply, by how it reads and by the tag of its opened part.
use Rattle.std.proofs.Common.{◌≡◌, true, not, Result, Err, List, ℕ, ℤ, ap, refl}
use Rattle.krb_crypto.specs.Keys.{KeyRecord}
use Rattle.krb_messages.specs.declared.messages.enc_kdc_rep_part.EncKdcRepPart.{EncKdcRepPart}
use Rattle.krb_messages.specs.declared.messages.kdc_rep.KdcRep.{KdcRep}
use Rattle.decision_tables.specs.One.{IsSole}
use Rattle.decision_tables.specs.Tables.{Table, ask, done, refuse}
use Rattle.krb_client.specs.Asked.{AsAskedRecord}
use Rattle.krb_client.specs.AsReply.{IsAsPart, sole_as_part, takes_sealed}
use Rattle.krb_client.specs.Client.{ClientRecord}
use Rattle.krb_client.specs.Messages.{IsErrorCode, sole_error_code}
use Rattle.krb_client.specs.Refusals.{IsTaken}
use Rattle.krb_client.specs.Taking.{IsTgsPart, Taken, is_of_type, sole_tgs_part, takes_message, takes_part}
use Rattle.krb_client.specs.declared.refusal.TakeRefusal.{TakeRefusal}
use Rattle.krb_client.specs.declared.refusal.TakeRefusal.TheVariants.{NotSealed, Refused, Unreadable}
use Rattle.krb_client.proofs.Outcomes.{found, not_found, passed}

-- with the right version and type
pub of_type : {T : Type 0} (number : ℕ) (version kind : ℤ) (rest : Table (Result T TakeRefusal)) (taken : Result T TakeRefusal)
    → is_of_type number version kind ≡ true → IsTaken rest taken → IsTaken (refuse (not (is_of_type number version kind)) Unreadable rest) taken
of_type number version kind rest taken is given = passed (not (is_of_type number version kind)) Unreadable rest taken (ap not is) given

-- with the right version and type, and its part opened
pub of_type_opened : {A T : Type 0} (number : ℕ) (version kind : ℤ) (IsPart : A → Type 0) (sole : IsSole IsPart) (rest : A → Table (Result T TakeRefusal)) (taken : Result T TakeRefusal) (part : A)
    → is_of_type number version kind ≡ true → IsPart part → IsTaken (rest part) taken
    → IsTaken (refuse (not (is_of_type number version kind)) Unreadable (ask IsPart sole (done (Err NotSealed)) rest)) taken
of_type_opened number version kind IsPart sole rest taken part is opened given =
    of_type number version kind (ask IsPart sole (done (Err NotSealed)) rest) taken is (found IsPart sole (done (Err NotSealed)) rest taken part opened given)

-- with the right version and type, and nothing that opens
pub of_type_unopened : {A T : Type 0} (number : ℕ) (version kind : ℤ) (IsPart : A → Type 0) (sole : IsSole IsPart) (rest : A → Table (Result T TakeRefusal))
    → is_of_type number version kind ≡ true → ((part : A) → IsPart part → ⊥)
    → IsTaken (refuse (not (is_of_type number version kind)) Unreadable (ask IsPart sole (done (Err NotSealed)) rest)) (Err NotSealed)
of_type_unopened number version kind IsPart sole rest is none =
    of_type number version kind (ask IsPart sole (done (Err NotSealed)) rest) (Err NotSealed) is (not_found IsPart sole (done (Err NotSealed)) rest (Err NotSealed) none refl)

-- the part that a TGS reply's tag is opened by
by_tgs_tag : ClientRecord → KeyRecord → AsAskedRecord → KdcRep → Table Taken
by_tgs_tag client key asked reply =
    ask (IsTgsPart key.suite key.bytes 3 reply.enc_part.0) (sole_tgs_part key.suite key.bytes 3 reply.enc_part.0) (done (Err NotSealed)) (takes_part client asked.service asked.nonce reply)

pub taken_by_as_tag : (client : ClientRecord) (key : KeyRecord) (asked : AsAskedRecord) (reply : KdcRep) (part : EncKdcRepPart) (taken : Taken)
    → IsAsPart key.suite key.bytes reply.enc_part.0 part → IsTaken (takes_part client asked.service asked.nonce reply part) taken → IsTaken (takes_sealed client key asked reply) taken
unfolding by_tgs_tag
taken_by_as_tag client key asked reply part taken opened given =
    found (IsAsPart key.suite key.bytes reply.enc_part.0) (sole_as_part key.suite key.bytes reply.enc_part.0) (by_tgs_tag client key asked reply) (takes_part client asked.service asked.nonce reply) taken part opened given

pub taken_by_tgs_tag : (client : ClientRecord) (key : KeyRecord) (asked : AsAskedRecord) (reply : KdcRep) (part : EncKdcRepPart) (taken : Taken)
    → ((other : EncKdcRepPart) → IsAsPart key.suite key.bytes reply.enc_part.0 other → ⊥) → IsTgsPart key.suite key.bytes 3 reply.enc_part.0 part
    → IsTaken (takes_part client asked.service asked.nonce reply part) taken → IsTaken (takes_sealed client key asked reply) taken
unfolding by_tgs_tag
taken_by_tgs_tag client key asked reply part taken none opened given =
    not_found (IsAsPart key.suite key.bytes reply.enc_part.0) (sole_as_part key.suite key.bytes reply.enc_part.0) (by_tgs_tag client key asked reply) (takes_part client asked.service asked.nonce reply) taken none
    (found (IsTgsPart key.suite key.bytes 3 reply.enc_part.0) (sole_tgs_part key.suite key.bytes 3 reply.enc_part.0) (done (Err NotSealed)) (takes_part client asked.service asked.nonce reply) taken part opened given)

-- it opens by neither tag
pub taken_by_no_tag : (client : ClientRecord) (key : KeyRecord) (asked : AsAskedRecord) (reply : KdcRep)
    → ((part : EncKdcRepPart) → IsAsPart key.suite key.bytes reply.enc_part.0 part → ⊥) → ((part : EncKdcRepPart) → IsTgsPart key.suite key.bytes 3 reply.enc_part.0 part → ⊥)
    → IsTaken (takes_sealed client key asked reply) (Err NotSealed)
unfolding by_tgs_tag
taken_by_no_tag client key asked reply none neither =
    not_found (IsAsPart key.suite key.bytes reply.enc_part.0) (sole_as_part key.suite key.bytes reply.enc_part.0) (by_tgs_tag client key asked reply) (takes_part client asked.service asked.nonce reply) (Err NotSealed) none
    (not_found (IsTgsPart key.suite key.bytes 3 reply.enc_part.0) (sole_tgs_part key.suite key.bytes 3 reply.enc_part.0) (done (Err NotSealed)) (takes_part client asked.service asked.nonce reply) (Err NotSealed) neither refl)

-- the bytes are a reply
pub taken_read : {A T : Type 0} (bytes : List ℕ) (IsReply : A → Type 0) (sole : IsSole IsReply) (rest : A → Table (Result T TakeRefusal)) (taken : Result T TakeRefusal) (reply : A)
    → ((code : ℕ) → IsErrorCode bytes code → ⊥) → IsReply reply → IsTaken (rest reply) taken → IsTaken (takes_message bytes IsReply sole rest) taken
taken_read bytes IsReply sole rest taken reply none is given =
    not_found (IsErrorCode bytes) (sole_error_code bytes) (ask IsReply sole (done (Err Unreadable)) rest) (λ code. done (Err (Refused code))) taken none
    (found IsReply sole (done (Err Unreadable)) rest taken reply is given)

-- the bytes are an error
pub refused_by_error : {A T : Type 0} (bytes : List ℕ) (IsReply : A → Type 0) (sole : IsSole IsReply) (rest : A → Table (Result T TakeRefusal)) (code : ℕ)
    → IsErrorCode bytes code → IsTaken (takes_message bytes IsReply sole rest) (Err (Refused code))
refused_by_error bytes IsReply sole rest code is =
    found (IsErrorCode bytes) (sole_error_code bytes) (ask IsReply sole (done (Err Unreadable)) rest) (λ code. done (Err (Refused code))) (Err (Refused code)) code is refl

-- the bytes are neither
pub unreadable : {A T : Type 0} (bytes : List ℕ) (IsReply : A → Type 0) (sole : IsSole IsReply) (rest : A → Table (Result T TakeRefusal))
    → ((code : ℕ) → IsErrorCode bytes code → ⊥) → ((reply : A) → IsReply reply → ⊥) → IsTaken (takes_message bytes IsReply sole rest) (Err Unreadable)
unreadable bytes IsReply sole rest none no_reply =
    not_found (IsErrorCode bytes) (sole_error_code bytes) (ask IsReply sole (done (Err Unreadable)) rest) (λ code. done (Err (Refused code))) (Err Unreadable) none
    (not_found IsReply sole (done (Err Unreadable)) rest (Err Unreadable) no_reply refl)

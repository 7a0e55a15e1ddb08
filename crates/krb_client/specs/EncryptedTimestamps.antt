-- How a client authenticates itself by a key that it shares with its realm: the time, sealed under that key, is the request's
-- padata (RFC 4120, section 5.2.7.2), and the reply is encrypted under it (section 3.1.3).
use Rattle.std.specs.Prelude.{◌≡◌, ◌%◌, None, Some, Ok, pos}
use Rattle.std.specs.Int.{cast_unsigned, w32}
use Rattle.std.proofs.Common.{ap, subst, sym, ◌∙◌}
use Rattle.krb_time.specs.SecondOf.{IsSecondOf, sole_second}
use Rattle.krb_time.specs.Units.{Micros}
use Rattle.picky_asn1.specs.Bytes.{Bytes}
use Rattle.asn1_leaves.specs.declared.date.GeneralizedTime.{GeneralizedTime}
use Rattle.krb_constants.specs.declared.key_usages.TheConstants.{AS_REQ_TIMESTAMP}
use Rattle.krb_constants.specs.declared.padata_types.TheConstants.{PA_ENC_TIMESTAMP}
use Rattle.krb_crypto.specs.Suites.{cipher_confounder_size}
use Rattle.krb_crypto.specs.declared.suite.CipherSuite.{CipherSuite}
use Rattle.krb_messages.specs.RandomBytes.{Random, timestamp_confounder}
use Rattle.krb_messages.specs.declared.data_types.encrypted_data.EncryptedData.{EncryptedData}
use Rattle.krb_messages.specs.declared.data_types.pa_data.PaData.{PaData}
use Rattle.krb_messages.specs.declared.data_types.pa_enc_timestamp.PaEncTsEnc.{PaEncTsEnc}
use Rattle.decision_tables.specs.Tables.{done}
use Rattle.krb_client.specs.Means.{MeansRecord}
use Rattle.krb_client.specs.Messages.{encrypted_bytes, timestamp_bytes}
use Rattle.krb_tickets.specs.MethodData.{pa_data_of}
use Rattle.krb_tickets.specs.Sealing.{Seals, sole_seals}

-- the client's time, its microseconds always with it
abbrev pub timestamp_of : GeneralizedTime → Micros → PaEncTsEnc
timestamp_of second microsecond = record {
  patimestamp = record { 0 = record { 0 = second } };
  pausec = record { 0 = Some (record { 0 = pos microsecond }) };
}

-- the data is the moment, encrypted under the key behind the confounder (RFC 4120, section 7.5.1)
pub record IsSealedTime (suite : CipherSuite) (key : Bytes) (moment : Micros) (confounder : Bytes) (encrypted_timestamp : EncryptedData) : Type 0 where
  pub second : GeneralizedTime
  pub of_moment : IsSecondOf moment second
  pub sealed : Seals suite key None (cast_unsigned w32 AS_REQ_TIMESTAMP) confounder (timestamp_bytes (timestamp_of second (moment % 1000000))) encrypted_timestamp

pub sole_sealed_time : (suite : CipherSuite) (key : Bytes) (moment : Micros) (confounder : Bytes) (a b : EncryptedData)
    → IsSealedTime suite key moment confounder a → IsSealedTime suite key moment confounder b → a ≡ b
sole_sealed_time suite key moment confounder a b x y =
    let same = sole_second moment x.second y.second x.of_moment y.of_moment in
    let first = subst (λ (second : GeneralizedTime). Seals suite key None (cast_unsigned w32 AS_REQ_TIMESTAMP) confounder (timestamp_bytes (timestamp_of second (moment % 1000000))) a) same x.sealed in
    sole_seals suite key None (cast_unsigned w32 AS_REQ_TIMESTAMP) confounder (timestamp_bytes (timestamp_of y.second (moment % 1000000))) a b first y.sealed

-- the padata is PA-ENC-TIMESTAMP (RFC 4120, section 7.5.2) of the moment; of the random bytes the first are the confounder
pub record IsPaEncTimestamp (suite : CipherSuite) (key : Bytes) (moment : Micros) (words : Random) (padata : PaData) : Type 0 where
  pub encrypted_timestamp : EncryptedData
  pub sealed_time : IsSealedTime suite key moment (timestamp_confounder (cipher_confounder_size suite) words) encrypted_timestamp
  pub made : padata ≡ pa_data_of PA_ENC_TIMESTAMP (encrypted_bytes encrypted_timestamp)

pub sole_pa_enc_timestamp : (suite : CipherSuite) (key : Bytes) (moment : Micros) (words : Random) (a b : PaData)
    → IsPaEncTimestamp suite key moment words a → IsPaEncTimestamp suite key moment words b → a ≡ b
sole_pa_enc_timestamp suite key moment words a b x y =
    x.made
    ∙ ap (λ encrypted_timestamp. pa_data_of PA_ENC_TIMESTAMP (encrypted_bytes encrypted_timestamp)) (sole_sealed_time suite key moment (timestamp_confounder (cipher_confounder_size suite) words) x.encrypted_timestamp y.encrypted_timestamp x.sealed_time y.sealed_time)
    ∙ sym y.made

-- the means of a client that has a key of this suite: it sends PA-ENC-TIMESTAMP, and the key opens the reply
abbrev pub by_key : CipherSuite → Bytes → MeansRecord
by_key suite key = record {
  asks = λ body moment words. IsPaEncTimestamp suite key moment words;
  sole_asks = λ body moment words. sole_pa_enc_timestamp suite key moment words;
  refuses = λ body moment words. ⊥;
  reply_key = λ client asked reply. done (Ok (record { suite = suite; bytes = key }));
}

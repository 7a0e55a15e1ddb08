-- What a client takes of a realm's reply whose part is opened, for AS and TGS.
use Rattle.std.proofs.Common.{◌≡◌, ◌≤◌, ℕ, true, not, ◌&&◌, List, length, Option, None, Some, Ok, refl, sym, ap, subst, arith}
use Rattle.std.proofs.lemmas.Bool.{and_from, eq-eqb}
use Rattle.std.proofs.lemmas.List.{length-take-le}
use Rattle.std.specs.Option.{option_map}
use Rattle.std.specs.Prelude.{pos}
use Rattle.asn1_leaves.specs.declared.date.GeneralizedTime.{GeneralizedTime}
use Rattle.picky_asn1.specs.Bytes.{Bytes}
use Rattle.picky_asn1.specs.Numbers.{is_number}
use Rattle.krb_crypto.specs.declared.suite.CipherSuite.{CipherSuite}
use Rattle.krb_crypto.specs.Suites.{cipher_confounder_size, cipher_key_size, cipher_seed_size}
use Rattle.krb_crypto.proofs.AllSuites.{seed_below}
use Rattle.krb_crypto.proofs.SealedTexts.{seed_key_sized}
use Rattle.krb_messages.specs.Names.{components, is_same_name, is_same_realm}
use Rattle.krb_messages.specs.RandomBytes.{Random, session_seed, ticket_confounder}
use Rattle.krb_messages.specs.declared.data_types.encrypted_data.EncryptedData.{EncryptedData}
use Rattle.krb_messages.specs.declared.messages.kdc_rep.KdcRep.{KdcRep}
use Rattle.krb_realm_accounts.specs.Account.{AccountRecord}
use Rattle.decision_tables.specs.Tables.{Table, done, need}
use Rattle.krb_tickets.specs.Keys.{suite_of}
use Rattle.krb_tickets.proofs.KeySizes.{suite_of_sized}
use Rattle.krb_tickets.specs.Sealing.{encryption_key}
use Rattle.krb_tickets.specs.Grant.{GrantRecord}
use Rattle.krb_tickets.specs.declared.reply.Exchange.{Exchange}
use Rattle.krb_tickets.specs.Parts.{kdc_reply_of, reply_part, session_key_of, tagged_till, ticket_of, ticket_part}
use Rattle.krb_tickets.specs.Sealed.{IsSealedData, ticket_part_bytes}
use Rattle.krb_tickets.specs.Answers.{is_answer}
use Rattle.krb_client.specs.Client.{ClientRecord, CredentialRecord}
use Rattle.krb_client.specs.Taking.{Taken, credential_of, renew_till_of, takes_part}
use Rattle.krb_client.specs.declared.refusal.TakeRefusal.{TakeRefusal}
use Rattle.krb_client.specs.declared.refusal.TakeRefusal.TheVariants.{NotAsked}
use Rattle.krb_logins.specs.Held.{IsHeld}
use Rattle.krb_logins.proofs.Names.{same_name, same_realm}
use Rattle.krb_logins.proofs.Passing.{past_need, past_refuse}

-- a session's key has the length of its suite's keys
pub session_key_sized : (suite : CipherSuite) (words : Random) → 128 ≤ length words → length (session_key_of suite words) ≡ cipher_key_size suite
session_key_sized suite words enough =
    seed_key_sized suite (session_seed (cipher_seed_size suite) words) (length-take-le (cipher_seed_size suite) words (omega (arith, enough, seed_below suite)))

-- so it is one of the suite
pub suite_of_key : (suite : CipherSuite) (key : Bytes) → length key ≡ cipher_key_size suite → suite_of (encryption_key suite key) ≡ Some suite
suite_of_key suite key sized = suite_of_sized (encryption_key suite key) suite refl sized

-- a renew-till is told as itself
same_till : (till : Option GeneralizedTime) → option_map (λ tagged. tagged.0.0) (tagged_till till) ≡ till
same_till None = refl
same_till (Some time) = refl

-- the grant is what the client asked for
pub record IsAskedFor (client : ClientRecord) (asked : List Bytes) (number : ℕ) (grant : GrantRecord) : Type 0 where
  pub nonce : grant.nonce ≡ pos number
  pub realm : grant.realm ≡ client.realm
  pub name : components grant.client ≡ client.components
  pub service : components grant.service ≡ asked

module _ (client : ClientRecord) (asked : List Bytes) (number : ℕ) (exchange : Exchange) (pk_as_rep : Option Bytes) (grant : GrantRecord) (ticket sealed : EncryptedData) where
  abbrev reply : KdcRep
  reply = kdc_reply_of exchange pk_as_rep grant (ticket_of grant ticket) sealed

  answered : IsAskedFor client asked number grant → is_answer client.realm client.components asked number reply (reply_part grant) ≡ true
  unfolding is_answer kdc_reply_of reply_part
  answered is =
      let nonce = is_number number grant.nonce in
      let realm = is_same_realm grant.realm client.realm in
      let name = is_same_name (components grant.client) client.components in
      and_from (nonce && realm && name && realm) (is_same_name (components grant.service) asked)
      (and_from (nonce && realm && name) realm
      (and_from (nonce && realm) name
      (and_from nonce realm (subst (λ n. is_number number n ≡ true) (sym is.nonce) (eq-eqb number number refl)) (same_realm grant.realm client.realm is.realm))
      (same_name (components grant.client) client.components is.name))
      (same_realm grant.realm client.realm is.realm))
      (same_name (components grant.service) asked is.service)

  part_suite : length grant.session ≡ cipher_key_size grant.suite → suite_of (reply_part grant).key.0 ≡ Some grant.suite
  unfolding reply_part
  part_suite sized = suite_of_key grant.suite grant.session sized

  -- the reply tells the renew-till, if there is one
  till_told : renew_till_of (reply_part grant) ≡ grant.renew_till
  unfolding reply_part
  till_told = same_till grant.renew_till

  held : (account : AccountRecord) (words : Random) → IsSealedData account 2 (ticket_confounder (cipher_confounder_size account.suite) words) (ticket_part_bytes (ticket_part grant)) ticket
      → IsHeld account words grant (credential_of reply (reply_part grant) grant.suite)
  unfolding kdc_reply_of reply_part
  held account words it = record {
    part = ticket;
    sealed = it;
    ticket = refl;
    suite = refl;
    key = refl;
    realm = refl;
    service = refl;
    authtime = refl;
    starttime = refl;
    endtime = refl;
    renew_till = till_told;
    flags = refl;
  }

  abbrev with_suite : CipherSuite → Table Taken
  with_suite suite = done (Ok (credential_of reply (reply_part grant) suite))

  -- it is held
  pub taken_held : (account : AccountRecord) (words : Random) (taken : Taken) → IsAskedFor client asked number grant → length grant.session ≡ cipher_key_size grant.suite
      → IsSealedData account 2 (ticket_confounder (cipher_confounder_size account.suite) words) (ticket_part_bytes (ticket_part grant)) ticket
      → (takes_part client asked number reply (reply_part grant)).gives taken
      → (credential : CredentialRecord) × (taken ≡ Ok credential) × IsHeld account words grant credential
  taken_held account words taken is sized it x =
      let answers = past_refuse {T = CredentialRecord} {E = TakeRefusal} (not (is_answer client.realm client.components asked number reply (reply_part grant))) NotAsked
      (need (suite_of (reply_part grant).key.0) NotAsked with_suite) taken (ap not (answered is)) x in (
        credential_of reply (reply_part grant) grant.suite,
        past_need {T = CredentialRecord} {E = TakeRefusal} (suite_of (reply_part grant).key.0) NotAsked with_suite grant.suite taken (part_suite sized) answers,
        held account words it,
      )

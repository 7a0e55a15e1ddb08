-- What the initiator delegates the acceptor hands out.
use Rattle.std.proofs.Common.{◌≡◌, ℕ, ◌+◌, ◌*◌, ◌/◌, ◌%◌, ◌<◌, ◌^◌, Bool, true, false, not, ◌++◌, length, take, drop, append_assoc, Option, None, Some, Result, Ok, Err, refl, sym, ap, subst, ◌∙◌, inl, nat_lt, if◌then◌else◌, arith}
use Rattle.std.proofs.lemmas.Bool.{eq-eqb}
use Rattle.std.proofs.lemmas.Bool.Decides.{nat_tests}
use Rattle.std.proofs.lemmas.List.{drop_at, length-append, take_all, take_at}
use Rattle.std.proofs.lemmas.Nat.{and_or_self, or_of_32}
use Rattle.std.specs.Prelude.{◌==◌, nat_eq}
use Rattle.std.specs.Int.{cast_unsigned, w32}
use Rattle.std.specs.Option.{option_map}
use Rattle.byte_streams.specs.Numbers.{le32, le32_at}
use Rattle.byte_streams.specs.Parts.{part, Stands}
use Rattle.byte_streams.proofs.NumberLaws.{le32-again, length-le32}
use Rattle.asn1_der.specs.Tree.{IsWhole}
use Rattle.decision_tables.specs.Tables.{Table, need}
use Rattle.picky_asn1.specs.Bytes.{Bytes}
use Rattle.krb_constants.specs.declared.key_usages.TheConstants.{KRB_CRED_ENC_PART}
use Rattle.krb_crypto.specs.Keys.{KeyRecord}
use Rattle.krb_crypto.specs.declared.suite.CipherSuite.{CipherSuite}
use Rattle.krb_messages.specs.declared.data_types.encrypted_data.EncryptedData.{EncryptedData}
use Rattle.krb_messages.specs.declared.data_types.ticket.TicketInner.{TicketInner}
use Rattle.krb_tickets.specs.Keys.{key_in}
use Rattle.krb_tickets.specs.Sealing.{encrypted_by, sealed_opens}
use Rattle.krb_tickets.proofs.KeySizes.{suite_of_sized}
use Rattle.krb_client.specs.Client.{ClientRecord, CredentialRecord}
use Rattle.gss_contexts.specs.Tokens.{is_set}
use Rattle.gss_acceptor.specs.Checksum.{initial_sum}
use Rattle.gss_acceptor.specs.Delegation.{IsCredPart, IsKrbCred, cred_in, deleg_in, delegated_in, delegation, delegation_by, enc_krb_cred_part_tree, krb_cred_tree}
use Rattle.gss_acceptor.specs.declared.checksum.InitialChecksum.{InitialChecksum}
use Rattle.gss_acceptor.specs.declared.delegation.Delegated.{Delegated}
use Rattle.gss_acceptor.specs.declared.refusal.AcceptRefusal.{AcceptRefusal}
use Rattle.gss_acceptor.specs.declared.refusal.AcceptRefusal.TheVariants.{BadDelegation, OtherChecksum}
use Rattle.gss_initiator.specs.Checksums.{initial_octets}
use Rattle.gss_initiator.specs.Delegating.{HandsOn, cred_confounder, cred_part, cred_part_bytes, delegating, delegating_checksum, delegation_octets, krb_cred_bytes, krb_cred_of}
use Rattle.gss_logins.specs.Delegations.{CanDelegate, IsHandedOut, handed_out, session_of}
use Rattle.gss_logins.specs.Honest.{ticket_tree}

-- rows that pass
read_past : (short other : Bool) (initial : InitialChecksum) → short ≡ false → other ≡ false → (if short then Err OtherChecksum else (if other then Err OtherChecksum else Ok initial)) ≡ Ok initial
read_past true other initial a b = absurd (cc (a))
read_past false true initial a b = absurd (cc (b))
read_past false false initial a b = refl

deleg_past : (short other long : Bool) (found : Bytes) → short ≡ false → other ≡ false → long ≡ false
    → ◌≡◌ {A = Option Bytes} (if short then None else (if other then None else (if long then None else Some found))) (Some found)
deleg_past true other long found a b c = absurd (cc (a))
deleg_past false true long found a b c = absurd (cc (b))
deleg_past false false true found a b c = absurd (cc (c))
deleg_past false false false found a b c = refl

-- the octets of the checksum are read as what they were written of
module _ (initial : InitialChecksum) (deleg : Bytes) (sized : length initial.bindings ≡ 16) (low : initial.flags.0 < 2 ^ 32) (fits : length deleg < 65536) where
  abbrev number : ℕ
  number = 1 + 65536 * length deleg

  abbrev flags : Bytes
  flags = le32 initial.flags.0

  abbrev octets : Bytes
  octets = initial_octets initial ++ delegation_octets deleg

  -- from the flags on, and from the bindings on
  abbrev behind : Bytes
  behind = flags ++ (le32 number ++ deleg)

  whole : octets ≡ (le32 16 ++ initial.bindings) ++ behind
  whole = append_assoc (le32 16 ++ initial.bindings) flags (le32 number ++ deleg)

  front : octets ≡ le32 16 ++ (initial.bindings ++ behind)
  front = whole ∙ append_assoc (le32 16) initial.bindings behind

  front_sized : length (le32 16 ++ initial.bindings) ≡ 20
  front_sized = let b = length-append (le32 16) initial.bindings in omega (arith, b, sized, length-le32 16)

  initial_sized : length (initial_octets initial) ≡ 24
  initial_sized = let b = length-append (le32 16 ++ initial.bindings) flags in omega (arith, b, front_sized, length-le32 initial.flags.0)

  long : length octets ≡ 28 + length deleg
  long =
      let a = length-append (initial_octets initial) (le32 number ++ deleg) in
      let b = length-append (le32 number) deleg in
      omega (arith, a, b, initial_sized, length-le32 number)

  size_again : le32_at 0 octets ≡ 16
  size_again =
      let at : take (length (le32 16)) octets ≡ le32 16 = ap (take (length (le32 16))) front ∙ take_at (le32 16) (initial.bindings ++ behind) (length (le32 16)) refl in
      le32-again 0 16 octets (omega arith) at

  flags_again : le32_at 20 octets ≡ initial.flags.0
  flags_again =
      let cut : drop 20 octets ≡ behind = ap (drop 20) whole ∙ drop_at (le32 16 ++ initial.bindings) behind 20 front_sized in
      let at : Stands (part 20 flags) octets = ap (take (length flags)) cut ∙ take_at flags (le32 number ++ deleg) (length flags) refl in
      le32-again 20 initial.flags.0 octets low at

  bindings_again : take 16 (drop 4 octets) ≡ initial.bindings
  bindings_again =
      let cut : drop 4 octets ≡ initial.bindings ++ behind = ap (drop 4) front ∙ drop_at (le32 16) (initial.bindings ++ behind) 4 (length-le32 16) in
      ap (take 16) cut ∙ take_at initial.bindings behind 16 sized

  pub read_again : initial_sum octets ≡ Ok initial
  read_again =
      let short : nat_lt (length octets) 24 ≡ false = grind (arith, nat_tests, long) in
      let same : not (le32_at 0 octets == 16) ≡ false = ap not (eq-eqb (le32_at 0 octets) 16 size_again) in
      let made : record { bindings = take 16 (drop 4 octets); flags = record { 0 = le32_at 20 octets } } ≡ initial =
      λ i. record { bindings = bindings_again i; flags = record { 0 = flags_again i } } in
      read_past (nat_lt (length octets) 24) (not (le32_at 0 octets == 16)) _ short same ∙ ap Ok made

  number_again : le32_at 24 octets ≡ number
  number_again =
      let cut : drop 24 octets ≡ le32 number ++ deleg = drop_at (initial_octets initial) (le32 number ++ deleg) 24 initial_sized in
      let at : Stands (part 24 (le32 number)) octets = ap (take (length (le32 number))) cut ∙ take_at (le32 number) deleg (length (le32 number)) refl in
      le32-again 24 number octets (omega (arith, fits)) at

  deleg_again : drop 28 octets ≡ deleg
  deleg_again =
      let a = length-append (initial_octets initial) (le32 number) in
      let joined : octets ≡ (initial_octets initial ++ le32 number) ++ deleg = sym (append_assoc (initial_octets initial) (le32 number) deleg) in
      ap (drop 28) joined ∙ drop_at (initial_octets initial ++ le32 number) deleg 28 (omega (arith, a, initial_sized, length-le32 number))

  option_again : le32_at 24 octets % 65536 ≡ 1
  option_again = ap (λ n. n % 65536) number_again ∙ omega arith

  count_again : le32_at 24 octets / 65536 ≡ length deleg
  count_again = ap (λ n. n / 65536) number_again ∙ omega arith

  pub found_again : deleg_in octets ≡ Some deleg
  found_again =
      let short : nat_lt (length octets) 28 ≡ false = grind (arith, nat_tests, long) in
      let same : not (le32_at 24 octets % 65536 == 1) ≡ false = ap not (eq-eqb (le32_at 24 octets % 65536) 1 option_again) in
      let enough : nat_lt (length octets) (28 + le32_at 24 octets / 65536) ≡ false = grind (arith, nat_tests, long, count_again) in
      let cut : take (le32_at 24 octets / 65536) (drop 28 octets) ≡ deleg =
      ap (λ n. take n (drop 28 octets)) count_again ∙ ap (take (length deleg)) deleg_again ∙ take_all (length deleg) deleg (omega arith) in
      deleg_past _ _ _ _ short same enough ∙ ap Some cut

-- the message and its part
whole_message : (ticket : TicketInner) (suite : CipherSuite) (cipher : Bytes) → IsWhole (ticket_tree ticket) → IsWhole (krb_cred_tree (krb_cred_of ticket (encrypted_by suite None cipher)))
unfolding krb_cred_of
whole_message ticket suite cipher whole = (((tt, tt), ((tt, tt), ((((whole, tt), tt), tt), ((((tt, tt), ((tt, tt), tt)), tt), tt)))), tt)

module _ (client : ClientRecord) (credential forwarded : CredentialRecord) (initial : InitialChecksum) (words deleg : Bytes)
    (can : CanDelegate client credential forwarded initial) (hands_on : HandsOn client credential forwarded words deleg) (fits : length deleg < 65536) where
  abbrev own : InitialChecksum
  own = delegating initial

  abbrev key : KeyRecord
  key = record { suite = credential.suite; bytes = credential.key }

  low : own.flags.0 < 2 ^ 32
  low = or_of_32 initial.flags.0 1 can.flagged (omega arith)

  keyed : key_in (session_of credential) ≡ Some key
  keyed =
      ap (option_map (λ (suite : CipherSuite). record { suite = suite; bytes = credential.key }))
      (suite_of_sized (session_of credential) credential.suite refl can.keyed)

  is_message : IsKrbCred deleg (krb_cred_of forwarded.ticket hands_on.part)
  unfolding krb_cred_bytes
  is_message =
      let made : IsWhole (krb_cred_tree (krb_cred_of forwarded.ticket hands_on.part)) =
      subst (λ (p : EncryptedData). IsWhole (krb_cred_tree (krb_cred_of forwarded.ticket p))) (sym hands_on.sealed.told)
      (whole_message forwarded.ticket credential.suite hands_on.sealed.cipher can.ticket) in
      (made, hands_on.encoding)

  is_part : IsCredPart key hands_on.part (cred_part client forwarded)
  unfolding cred_part_bytes
  is_part =
      sealed_opens enc_krb_cred_part_tree (cred_part client forwarded) credential.suite credential.key None (cast_unsigned w32 KRB_CRED_ENC_PART) (cred_confounder credential words)
      (cred_part_bytes (cred_part client forwarded)) hands_on.part (can.told, refl) hands_on.sealed

  opens : (cred_in key deleg).gives (Ok (handed_out client forwarded))
  unfolding krb_cred_of cred_part
  opens = inl (krb_cred_of forwarded.ticket hands_on.part, is_message, inl (cred_part client forwarded, inl (cred_part client forwarded, is_part, refl), refl))

  abbrev by_key : Option KeyRecord → Table (Result Delegated AcceptRefusal)
  by_key o = need o BadDelegation (λ k. cred_in k deleg)

  abbrev by_deleg : Option Bytes → Table (Result Delegated AcceptRefusal)
  by_deleg o = need o BadDelegation (λ d. need (key_in (session_of credential)) BadDelegation (λ k. cred_in k d))

  found : (delegated_in (session_of credential) (initial_octets own ++ delegation_octets deleg)).gives (Ok (handed_out client forwarded))
  found =
      subst (λ (o : Option Bytes). (by_deleg o).gives (Ok (handed_out client forwarded))) (sym (found_again own deleg can.hashed low fits))
      (subst (λ (o : Option KeyRecord). (by_key o).gives (Ok (handed_out client forwarded))) (sym keyed) opens)

  set : is_set own.flags.0 1 ≡ true
  set = ap (λ n. not (nat_eq n 0)) (and_or_self 1 initial.flags.0)

  pub handed : IsHandedOut client credential forwarded initial deleg
  unfolding delegation
  handed = record {
    read = read_again own deleg can.hashed low fits;
    delegates = subst (λ b. (delegation_by b (session_of credential) (Some (delegating_checksum own deleg))).gives (Ok (Some (handed_out client forwarded)))) (sym set)
        (inl (handed_out client forwarded, found, refl));
  }

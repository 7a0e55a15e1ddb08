-- What an initiator sends first, and what it waits for.
use Rattle.std.specs.Prelude.{◌≡◌, ◌⊎◌, ◌≤◌, ◌<◌, true, length, not, nat_le, Bool, Option, None, Some, Result, Ok, Err, if◌then◌else◌}
use Rattle.std.proofs.Common.{ap, sym, ◌∙◌}
use Rattle.picky_asn1.specs.BitString.{bit_of}
use Rattle.picky_asn1.specs.Bytes.{Bytes}
use Rattle.krb_time.specs.Units.{Micros}
use Rattle.krb_crypto.specs.declared.suite.CipherSuite.{CipherSuite}
use Rattle.krb_messages.specs.RandomBytes.{Random}
use Rattle.krb_messages.specs.declared.data_types.checksum.Checksum.{Checksum}
use Rattle.krb_tickets.specs.declared.flag_bits.TheConstants.{FORWARDED}
use Rattle.krb_client.specs.Client.{ClientRecord, CredentialRecord}
use Rattle.krb_client.specs.Requests.{nonce_of}
use Rattle.gss_contexts.specs.Contexts.{is_newer}
use Rattle.gss_acceptor.specs.declared.checksum.ContextFlags.{ContextFlags}
use Rattle.gss_acceptor.specs.declared.checksum.InitialChecksum.{InitialChecksum}
use Rattle.gss_initiator.specs.Checksums.{initial_checksum, is_beyond, is_in_sequence, is_mutual}
use Rattle.gss_initiator.specs.Contexts.{own_context, then_judged}
use Rattle.gss_initiator.specs.FirstTokens.{first_token}
use Rattle.gss_initiator.specs.Delegating.{HandsOn, delegating, delegating_checksum}
use Rattle.gss_initiator.specs.Requests.{AsksWith, own_subkey, sole_request_with}
use Rattle.gss_initiator.specs.declared.initiated.Pending.{Pending}
use Rattle.gss_initiator.specs.declared.initiated.Progress.{Progress}
use Rattle.gss_initiator.specs.declared.initiated.Progress.TheVariants.{Established, ContinueNeeded}
use Rattle.gss_initiator.specs.declared.initiated.TokenForm.{TokenForm}
use Rattle.gss_initiator.specs.declared.initiated.TokenForm.TheVariants.{Bare, Negotiated}
use Rattle.gss_initiator.specs.declared.refusal.InitiateRefusal.{InitiateRefusal}
use Rattle.gss_initiator.specs.declared.refusal.InitiateRefusal.TheVariants.{LongDelegation, Memory, NotForwarded, NotOffered, OldSuite}

-- the token to send, and how the context stands
pub record InitiatedRecord : Type 0 where
  pub token : Bytes
  pub progress : Progress

-- why no context is asked for
abbrev pub refusal_of : CipherSuite → ContextFlags → Option InitiateRefusal
refusal_of suite flags = if is_beyond flags then Some NotOffered else (if is_newer suite then None else Some OldSuite)

-- what the initiator remembers
abbrev pub pending_of : CredentialRecord → ContextFlags → TokenForm → Micros → Random → Pending
pending_of credential flags form moment words = record {
  asked = record { suite = credential.suite; key = credential.key; time = moment; subkey = None };
  key = record { suite = credential.suite; bytes = own_subkey credential.suite words };
  number = nonce_of words;
  is_mutual = is_mutual flags;
  in_sequence = is_in_sequence flags;
  form = form;
}

-- A context without mutual authentication is there at once, unless SPNEGO's answer is due (RFC 4121, section 4.1; RFC 4178, section
-- 3.2). Test: `initiate Established`.
abbrev pub waits : Pending → TokenForm → Bool
waits pending Bare = pending.is_mutual
waits pending Negotiated = true

-- how the context stands after the first token: it waits for an answer, or is established, or is refused
abbrev pub progress_of : Pending → Result Progress InitiateRefusal
progress_of pending =
    if waits pending pending.form then Ok (ContinueNeeded pending)
    else then_judged (own_context pending) (λ context. Ok (Established context))

-- the result is the wanted progress or refusal, or memory ran out
abbrev pub IsProgress : Result Progress InitiateRefusal → Result Progress InitiateRefusal → Type 0
IsProgress wanted result = (result ≡ Err Memory) ⊎ (result ≡ wanted)

-- the result is this token to send with the wanted progress, or the wanted refusal, or memory ran out
abbrev pub IsSent : Bytes → Result Progress InitiateRefusal → Result InitiatedRecord InitiateRefusal → Type 0
IsSent token wanted (Ok made) = (made.token ≡ token) × (wanted ≡ Ok made.progress)
IsSent token wanted (Err refusal) = (refusal ≡ Memory) ⊎ (wanted ≡ Err refusal)

-- the token holds the AP-REQ whose authenticator has this checksum, in this form
pub record SendsWith (client : ClientRecord) (credential : CredentialRecord) (checksum : Checksum) (wants_reply : Bool) (form : TokenForm) (moment : Micros) (words : Random) (token : Bytes) : Type 0 where
  pub request : Bytes
  pub asks : AsksWith client credential checksum wants_reply moment words request
  pub is_token : token ≡ first_token form request

-- the token holds the AP-REQ that asks for the context, in this form
abbrev pub SendsFirst : ClientRecord → CredentialRecord → InitialChecksum → TokenForm → Micros → Random → Bytes → Type 0
SendsFirst client credential initial form moment words token = SendsWith client credential (initial_checksum initial) (is_mutual initial.flags) form moment words token

-- there is one such token at most
pub sole_token_with : (client : ClientRecord) (credential : CredentialRecord) (checksum : Checksum) (wants_reply : Bool) (form : TokenForm) (moment : Micros) (words : Random) (a b : Bytes)
    → SendsWith client credential checksum wants_reply form moment words a → SendsWith client credential checksum wants_reply form moment words b → a ≡ b
sole_token_with client credential checksum wants_reply form moment words a b x y =
    x.is_token ∙ ap (first_token form) (sole_request_with client credential checksum wants_reply moment words x.request y.request x.asks y.asks) ∙ sym y.is_token

-- the token is sent; or the refusal is the first that there is, or memory ran out
abbrev pub Initiates : ClientRecord → CredentialRecord → InitialChecksum → TokenForm → Micros → Random → Result InitiatedRecord InitiateRefusal → Type 0
Initiates client credential initial form moment words (Ok made) =
    (refusal_of credential.suite initial.flags ≡ None)
    × SendsFirst client credential initial form moment words made.token
    × (progress_of (pending_of credential initial.flags form moment words) ≡ Ok made.progress)
Initiates client credential initial form moment words (Err refusal) = (refusal ≡ Memory) ⊎ (refusal_of credential.suite initial.flags ≡ Some refusal)

-- why no context is asked for with a delegation: the flags and the suite, as without one, or the ticket isn't a forwarded one
abbrev pub delegation_refusal : CipherSuite → ContextFlags → CredentialRecord → Option InitiateRefusal
delegation_refusal suite flags forwarded =
    if nat_le 64 flags.0 then Some NotOffered
    else (if not (is_newer suite) then Some OldSuite
    -- The ticket that is handed on has the flag forwarded (RFC 4120, section 2.6). Test: `delegate NotForwarded`.
    else (if bit_of forwarded.flags FORWARDED then None else Some NotForwarded))

-- the token holds the AP-REQ that asks for the context and delegates, in this form. Dlgth has two octets
pub record DelegatesFirst (client : ClientRecord) (credential forwarded : CredentialRecord) (initial : InitialChecksum) (form : TokenForm) (moment : Micros) (words : Random) (token : Bytes) : Type 0 where
  pub deleg : Bytes
  pub hands_on : HandsOn client credential forwarded words deleg
  pub fits : length deleg < 65536
  pub sends : SendsWith client credential (delegating_checksum initial deleg) (is_mutual initial.flags) form moment words token

-- the KRB-CRED has more octets than Dlgth tells (RFC 4121, section 4.1.1). Test: `delegate LongDelegation`.
pub record IsTooLong (client : ClientRecord) (credential forwarded : CredentialRecord) (words : Random) : Type 0 where
  pub deleg : Bytes
  pub hands_on : HandsOn client credential forwarded words deleg
  pub long : 65536 ≤ length deleg

-- why no token that delegates is made: the KRB-CRED is too long, or memory ran out
abbrev pub IsUndelegated : ClientRecord → CredentialRecord → CredentialRecord → Random → InitiateRefusal → Type 0
IsUndelegated client credential forwarded words refusal =
    (refusal ≡ Memory) ⊎ ((refusal ≡ LongDelegation) × IsTooLong client credential forwarded words)

-- the token that delegates is sent; or the refusal is the first that there is, or the KRB-CRED is too long, or memory ran out
abbrev pub InitiatesDelegating : ClientRecord → CredentialRecord → CredentialRecord → InitialChecksum → TokenForm → Micros → Random → Result InitiatedRecord InitiateRefusal → Type 0
InitiatesDelegating client credential forwarded initial form moment words (Ok made) =
    (delegation_refusal credential.suite initial.flags forwarded ≡ None)
    × DelegatesFirst client credential forwarded (delegating initial) form moment words made.token
    × (progress_of (pending_of credential (delegating initial).flags form moment words) ≡ Ok made.progress)
InitiatesDelegating client credential forwarded initial form moment words (Err refusal) =
    (refusal ≡ Memory) ⊎ (delegation_refusal credential.suite initial.flags forwarded ≡ Some refusal)
    ⊎ ((refusal ≡ LongDelegation) × IsTooLong client credential forwarded words)

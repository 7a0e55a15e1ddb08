-- Without the flag of delegation nothing is handed out, and nothing is refused.
use Rattle.std.proofs.Common.{◌≡◌, Bool, true, false, Option, None, Ok, Err}
use Rattle.krb_messages.specs.declared.data_types.checksum.Checksum.{Checksum}
use Rattle.krb_messages.specs.declared.data_types.encryption_key.EncryptionKey.{EncryptionKey}
use Rattle.gss_contexts.specs.Tokens.{is_set}
use Rattle.gss_acceptor.specs.Delegation.{delegation, delegation_by}
use Rattle.gss_acceptor.specs.declared.checksum.ContextFlags.{ContextFlags}
use Rattle.gss_acceptor.specs.declared.delegation.Delegated.{Delegated}
use Rattle.gss_acceptor.specs.declared.refusal.AcceptRefusal.{AcceptRefusal}

none_by : (set : Bool) (session : EncryptionKey) (checksum : Option Checksum) (delegated : Option Delegated) → set ≡ false
    → (delegation_by set session checksum).gives (Ok delegated) → delegated ≡ None
none_by true session checksum delegated e x = absurd (cc (e))
none_by false session checksum delegated e x = cc (x)

never_by : (set : Bool) (session : EncryptionKey) (checksum : Option Checksum) (refusal : AcceptRefusal) → set ≡ false
    → (delegation_by set session checksum).gives (Err refusal) → ⊥
never_by true session checksum refusal e x = absurd (cc (e))
never_by false session checksum refusal e x = cc (x)

pub none_delegated : (flags : ContextFlags) (session : EncryptionKey) (checksum : Option Checksum) (delegated : Option Delegated) → is_set flags.0 1 ≡ false
    → (delegation flags session checksum).gives (Ok delegated) → delegated ≡ None
unfolding delegation
none_delegated flags session checksum delegated e x = none_by (is_set flags.0 1) session checksum delegated e x

pub not_refused : (flags : ContextFlags) (session : EncryptionKey) (checksum : Option Checksum) (refusal : AcceptRefusal) → is_set flags.0 1 ≡ false
    → (delegation flags session checksum).gives (Err refusal) → ⊥
unfolding delegation
not_refused flags session checksum refusal e x = never_by (is_set flags.0 1) session checksum refusal e x

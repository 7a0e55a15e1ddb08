-- The session key that is presented is one of the presented suite.
use Rattle.std.proofs.Common.{◌≡◌, ℕ, List, Option, Some, Ok, ap, sym, subst, ◌∙◌}
use Rattle.std.specs.Option.{option_map}
use Rattle.krb_crypto.specs.Keys.{KeyRecord}
use Rattle.krb_crypto.specs.declared.suite.CipherSuite.{CipherSuite}
use Rattle.krb_tickets.specs.Keys.{key_in}
use Rattle.krb_service.specs.ApReply.{HasSessionKey}
use Rattle.krb_ap_requests.specs.Entry.{EntryRecord}
use Rattle.krb_ap_requests.specs.Received.{Receives}
use Rattle.krb_ap_requests.specs.declared.presented.Presented.{Presented}
use Rattle.krb_ap_requests.proofs.Chosen.{received_is_chosen}

-- so it is of what is received
pub received_keyed : (entry : EntryRecord) (skew moment : ℕ) (message : List ℕ) (p : Presented) → Receives entry skew moment message (Ok p) → HasSessionKey p
received_keyed entry skew moment message p x =
    let by = received_is_chosen entry skew moment message p x in
    subst (λ (q : Presented). HasSessionKey q) (sym by.3) by.2.session

-- the key that is found is that one
pub found_session : (p : Presented) (found : Option KeyRecord) → found ≡ key_in p.part.key.0 → HasSessionKey p
    → found ≡ Some (record { suite = p.suite; bytes = p.part.key.0.key_value.0 })
found_session p found told keyed =
    let key_by : CipherSuite → KeyRecord = λ suite. record { suite = suite; bytes = p.part.key.0.key_value.0 } in
    told ∙ ap (option_map key_by) keyed

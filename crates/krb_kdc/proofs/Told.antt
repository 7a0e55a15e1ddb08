-- What an observer saw of a message and of its reply.
use Rattle.picky_asn1.specs.Bytes.{Bytes}
use Rattle.krb_realm_accounts.specs.Accounts.{Look}
use Rattle.krb_kdc.specs.Seen.{HasAccounts, IsSeen, IsTold}
use Rattle.krb_kdc.specs.declared.seen.Seen.{Seen}

pub told : {O : Type 0} (sees : O → Seen → O → Type 0) (holds : Look → Type 0) (realm message reply : Bytes) (old : O) (seen : Seen) (new : O) → sees old seen new
    → IsSeen message reply seen → ((all : Look) → holds all → HasAccounts all realm seen.accounts.now seen.request) → IsTold sees holds realm message old new reply
told sees holds realm message reply old seen new was is has = (seen, is, has, was)

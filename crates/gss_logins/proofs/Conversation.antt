-- Two ends of one context stay so while they send messages.
use Rattle.std.proofs.Common.{◌≡◌, ◌+◌, ◌<◌, ℕ, List, refl, ap, subst, sym, ◌∙◌, arith}
use Rattle.byte_streams.proofs.NumberLaws.{be64-again}
use Rattle.gss_contexts.specs.Contexts.{ContextRecord, last_number}
use Rattle.gss_contexts.specs.Judging.{TakesMic}
use Rattle.gss_contexts.specs.Tokens.{IsMicOf}
use Rattle.gss_contexts.specs.declared.sender.Sender.{Sender}
use Rattle.gss_logins.specs.OneContext.{AreEnds, after_sending}

pub swapped : (one other : ContextRecord) → AreEnds one other → AreEnds other one
swapped one other x = record { keyed = sym x.keyed; forth = x.back; back = x.forth; takes = x.taken; taken = x.takes }

pub by_moved : (one other after : ContextRecord) → AreEnds one other → after ≡ record other { taking = one.sending + 1 } → AreEnds (after_sending one) after
by_moved one other after x moved =
    let own : AreEnds (after_sending one) (record other { taking = one.sending + 1 }) = record { keyed = x.keyed; forth = x.forth; back = x.back; takes = x.takes; taken = refl } in
    subst (λ (c : ContextRecord). AreEnds (after_sending one) c) (sym moved) own

-- a MIC token has one number
one_number : (s t : Sender) (m n : ℕ) (message token : List ℕ) → IsMicOf s m message token → IsMicOf t n message token → m < last_number → n < last_number → m ≡ n
one_number s t m n message token x y above other =
    sym (be64-again 8 m token (omega arith) x.laid.header.1.1.1.0) ∙ be64-again 8 n token (omega arith) y.laid.header.1.1.1.0

pub by_mic : (one other after : ContextRecord) (s : Sender) (message token : List ℕ) → AreEnds one other → one.sending < last_number
    → IsMicOf s one.sending message token → TakesMic other after message token → AreEnds (after_sending one) after
by_mic one other after s message token x followed made takes =
    let same = one_number _ s takes.number one.sending message token takes.is_mic_of made takes.followed followed in
    by_moved one other after x (takes.moved ∙ ap (λ (n : ℕ). record other { taking = n + 1 }) same)

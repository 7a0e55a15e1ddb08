-- What the peer wrote is taken, memory aside.
use Rattle.std.proofs.Common.{◌≡◌, ℕ, ◌+◌, ◌≤◌, ◌<◌, List, ◌++◌, Bool, true, false, not, ◌&&◌, length, get_or, drop, Ok, Err, nat_lt, nat_eq, if◌then◌else◌, refl, ap, sym, subst, ◌∙◌, inl, inr, arith}
use Rattle.std.proofs.lemmas.Bool.{and_from, le-leb}
use Rattle.std.proofs.lemmas.Bool.Decides.{Decides-eqb, nat_tests}
use Rattle.std.proofs.lemmas.Slice.Eq.{bytes_eq-Decides}
use Rattle.std.specs.Bool.{beq}
use Rattle.std.specs.Cmp.{booleans_Decides}
use Rattle.byte_streams.specs.Numbers.{be16_at, be64_at}
use Rattle.byte_streams.proofs.NumberLaws.{be64-again}
use Rattle.byte_streams.proofs.PartLaws.{byte-again}
use Rattle.gss_contexts.specs.Contexts.{ContextRecord, IsInOrder, is_gap, last_number, other_side, peer}
use Rattle.gss_contexts.specs.Judging.{IsMicRefusal, IsUnread, IsWrapRefusal, TakesWrap, is_mic, is_wrap, judged}
use Rattle.gss_contexts.specs.Tokens.{Carries, IsMarked, IsMicOf, IsWrapOf, header_without_rrc, is_acceptor, is_set}
use Rattle.gss_contexts.specs.declared.refusal.TokenRefusal.{TokenRefusal}
use Rattle.gss_contexts.specs.declared.refusal.TokenRefusal.TheVariants.{NoSuchToken, OwnDirection, OtherKey, OldNumber, Gap, NumbersUsedUp, WrongChecksum, OtherHeader, Memory}
use Rattle.gss_contexts.specs.declared.sender.Sender.{Sender}
use Rattle.gss_contexts.specs.declared.side.Side.{Side}
use Rattle.gss_contexts.specs.declared.side.Side.TheVariants.{Initiator, Acceptor}
use Rattle.gss_contexts.specs.declared.side.Protection.{Protection}
use Rattle.gss_contexts.specs.declared.side.Protection.TheVariants.{Sealed, Checksum}
use Rattle.gss_contexts.proofs.Judged.{carried_of, protection_is}
use Rattle.gss_contexts.proofs.Rotated.{one_text}

-- the end with this least number
abbrev moved_to : ContextRecord → ℕ → ContextRecord
moved_to c n = record c { taking = n }

own_flag : (side : Side) → beq (is_acceptor (other_side side)) (is_acceptor side) ≡ false
own_flag Initiator = refl
own_flag Acceptor = refl

-- the next number leaves none out
no_gap : (in_sequence : Bool) (taking number : ℕ) → (in_sequence ≡ true → number ≡ taking) → (in_sequence && nat_lt taking number) ≡ false
no_gap true taking number next = let same : number ≡ taking = next refl in grind (arith, nat_tests)
no_gap false taking number next = refl

decided : (a b c d g e : Bool) (n : ℕ) → a ≡ true → b ≡ false → c ≡ true → d ≡ false → g ≡ false → e ≡ false
    → (if not a then Err NoSuchToken else if b then Err OwnDirection else if not c then Err OtherKey else if d then Err OldNumber else if g then Err Gap else if e then Err NumbersUsedUp else Ok n) ≡ Ok n
decided a b c d g e n p q r s u t = rw (p, q, r, s, u, t) refl

fits : (c : ContextRecord) (is_token confidential : Bool) (flags number : ℕ) (token : List ℕ) → is_token ≡ true → IsMarked (peer c) confidential flags
    → get_or token 2 0 ≡ flags → be64_at 8 token ≡ number → c.taking ≤ number → IsInOrder c number → number < last_number → judged c is_token token ≡ Ok number
unfolding judged
fits c is_token confidential flags number token is marked read_flags read is_new next followed =
    let old : nat_lt (be64_at 8 token) c.taking ≡ false = rw read (grind (arith, nat_tests)) in
    let last : nat_eq (be64_at 8 token) last_number ≡ false = rw read (grind (arith, nat_tests)) in
    let own : beq (is_set (get_or token 2 0) 1) (is_acceptor c.side) ≡ false =
    ap (λ (b : Bool). beq b (is_acceptor c.side)) (ap (λ n. is_set n 1) read_flags ∙ marked.by_acceptor) ∙ own_flag c.side in
    let key : beq (is_set (get_or token 2 0) 4) c.acceptor_subkey ≡ true = (booleans_Decides _ _).1 (ap (λ n. is_set n 4) read_flags ∙ marked.under_subkey) in
    let gap : is_gap c (be64_at 8 token) ≡ false = rw read (no_gap c.in_sequence c.taking number next) in
    decided _ _ _ _ _ _ (be64_at 8 token) is own key old gap last ∙ ap Ok read

mic_fits : (c : ContextRecord) (number : ℕ) (message token : List ℕ) → IsMicOf (peer c) number message token → c.taking ≤ number → IsInOrder c number → number < last_number
    → judged c (is_mic token) token ≡ Ok number
mic_fits c number message token x is_new next followed =
    let flags = byte-again 2 x.flags token x.laid.header.1.0 in
    let is : is_mic token ≡ true =
    and_from _ _ (and_from _ _ (and_from _ _ (le-leb 16 (length token) x.laid.long) ((bytes_eq-Decides _ _).1 x.laid.header.0)) ((bytes_eq-Decides _ _).1 x.laid.header.1.1.0))
    (ap not (ap (λ n. is_set n 2) flags ∙ x.marked.sealed)) in
    fits c (is_mic token) false x.flags number token is x.marked flags (be64-again 8 number token (omega arith) x.laid.header.1.1.1.0) is_new next followed

wrap_fits : (c : ContextRecord) (number : ℕ) (p : Protection) (d message token : List ℕ) → IsWrapOf (peer c) number p d message token → c.taking ≤ number → IsInOrder c number → number < last_number
    → judged c (is_wrap token) token ≡ Ok number
wrap_fits c number p d message token x is_new next followed =
    let filler = byte-again 3 255 token x.laid.header.1.1.0 in
    let is : is_wrap token ≡ true =
    and_from _ _ (and_from _ _ (le-leb 16 (length token) x.laid.long) ((bytes_eq-Decides _ _).1 x.laid.header.0)) ((Decides-eqb _ _).1 filler) in
    fits c (is_wrap token) _ x.flags number token is x.marked (byte-again 2 x.flags token x.laid.header.1.0)
    (be64-again 8 number token (omega arith) x.laid.header.1.1.1.1.1.0) is_new next followed

pub mic_is_taken : (c : ContextRecord) (s : Sender) (number : ℕ) (message token : List ℕ) → s ≡ peer c → IsMicOf s number message token → c.taking ≤ number → IsInOrder c number → number < last_number
    → (e : TokenRefusal) → IsMicRefusal c message token e → e ≡ Memory
mic_is_taken c s number message token is x is_new next followed e (inl wrong) =
    let fine = mic_fits c number message token (subst (λ t. IsMicOf t number message token) is x) is_new next followed in absurd (cc (wrong, fine))
mic_is_taken c s number message token is x is_new next followed e (inr (n, fine, inl wanting)) = wanting
mic_is_taken c s number message token is x is_new next followed e (inr (n, fine, inr other)) =
    let y = subst (λ t. IsMicOf t number message token) is x in
    let also = mic_fits c number message token y is_new next followed in
    let same : number ≡ n = cc (fine, also) in
    absurd (other.1 (subst (λ k. IsMicOf (peer c) k message token) same y))

not_unread : (s : Sender) (p : Protection) (d message token text : List ℕ) (e : TokenRefusal) → Carries s p (be16_at 4 token) d message token text → IsUnread s p token text e → ⊥
not_unread s Sealed d message token text WrongChecksum x unread = unread d (message ++ (x.filler ++ header_without_rrc token)) x.sealed
not_unread s Sealed d message token text OtherHeader x unread = unread.1 d message x
not_unread s Checksum d message token text WrongChecksum x unread = unread d message x
not_unread s p d message token text e x unread = unread

pub wrap_is_taken : (c : ContextRecord) (s : Sender) (number : ℕ) (p : Protection) (d message token : List ℕ) → s ≡ peer c → IsWrapOf s number p d message token
    → c.taking ≤ number → IsInOrder c number → number < last_number → (e : TokenRefusal) → IsWrapRefusal c token e → e ≡ Memory
wrap_is_taken c s number p d message token is x is_new next followed e (inl wrong) =
    let fine = wrap_fits c number p d message token (subst (λ t. IsWrapOf t number p d message token) is x) is_new next followed in absurd (cc (wrong, fine))
wrap_is_taken c s number p d message token is x is_new next followed e (inr (fine, inl wanting)) = wanting
wrap_is_taken c s number p d message token is x is_new next followed e (inr (fine, inr other)) =
    let y = subst (λ t. IsWrapOf t number p d message token) is x in
    let z = carried_of (peer c) number p d message token y in
    let one = one_text (be16_at 6 token) (drop 16 token) z.text other.0 z.is_text other.1 in
    absurd (not_unread (peer c) p d message token other.0 e (subst (λ (t : List ℕ). Carries (peer c) p (be16_at 4 token) d message token t) one z.carries)
    (subst (λ v. IsUnread (peer c) v token other.0 e) (protection_is (peer c) number p d message token y) other.2))

pub one_unwrapping : (c new : ContextRecord) (s : Sender) (number n : ℕ) (p q : Protection) (d message taken token : List ℕ) → s ≡ peer c
    → IsWrapOf s number p d message token → number < last_number → TakesWrap c new token n q taken
    → (n ≡ number) × (q ≡ p) × (taken ≡ message) × (new ≡ record c { taking = number + 1 })
one_unwrapping c new s number n p q d message taken token is x followed takes =
    let y = subst (λ t. IsWrapOf t number p d message token) is x in
    let follows = takes.followed in
    let same : n ≡ number =
    sym (be64-again 8 n token (omega arith) takes.is_wrap_of.laid.header.1.1.1.1.1.0) ∙ be64-again 8 number token (omega arith) y.laid.header.1.1.1.1.1.0 in (
      same,
      sym (protection_is (peer c) n q takes.confounder taken token takes.is_wrap_of) ∙ protection_is (peer c) number p d message token y,
      sym (takes.only p number d message y),
      takes.moved ∙ ap (λ k. moved_to c (k + 1)) same,
    )

-- Tokens whose headers are the peer's.
use Rattle.std.proofs.Common.{◌≡◌, ℕ, ◌+◌, ◌^◌, ◌≤◌, ◌<◌, List, [], ◌∷◌, ◌++◌, length, get_or, take, drop, Bool, true, false, bytes_eq, nat_lt, ◌&&◌, refl, ap, sym, subst, ◌∙◌, arith}
use Rattle.std.proofs.lemmas.List.{get_or-drop}
use Rattle.std.proofs.lemmas.Bool.{and_parts, leb-true, false≢true}
use Rattle.std.proofs.lemmas.Bool.Decides.{Decides-eqb, nat_tests}
use Rattle.std.proofs.lemmas.Slice.Eq.{bytes_eq-Decides}
use Rattle.std.specs.Bool.{beq}
use Rattle.byte_streams.specs.Parts.{part, Stands}
use Rattle.byte_streams.specs.Numbers.{be16, be16_at}
use Rattle.byte_streams.proofs.NumberLaws.{AreBytes, be16-again, be16-stands}
use Rattle.byte_streams.proofs.PartLaws.{byte-read, byte-again}
use Rattle.gss_contexts.specs.Contexts.{ContextRecord, other_side, peer}
use Rattle.gss_contexts.specs.Judging.{IsCarried, IsPeersHeader, TakesWrap, is_mic, is_wrap, protection_of}
use Rattle.gss_contexts.specs.Tokens.{Carries, IsMicOf, IsWrapOf, is_acceptor, is_sealed, is_set, rotated_right, sign_usage, sum_of}
use Rattle.gss_contexts.specs.declared.sender.Sender.{Sender}
use Rattle.gss_contexts.specs.declared.side.Side.{Side}
use Rattle.gss_contexts.specs.declared.side.Side.TheVariants.{Initiator, Acceptor}
use Rattle.gss_contexts.specs.declared.side.Protection.{Protection}
use Rattle.gss_contexts.specs.declared.side.Protection.TheVariants.{Sealed, Checksum}
use Rattle.gss_contexts.proofs.Ends.{ne-true}

-- a flag that isn't this side's is the other's
pub other_flag : (flag : Bool) (side : Side) → beq flag (is_acceptor side) ≡ false → flag ≡ is_acceptor (other_side side)
other_flag true Initiator differs = refl
other_flag false Initiator differs = absurd (false≢true (sym differs))
other_flag true Acceptor differs = absurd (false≢true (sym differs))
other_flag false Acceptor differs = refl

-- a number that leaves none out is the next one, in sequence
pub no_gap_left : (in_sequence : Bool) (taking number : ℕ) → (in_sequence && nat_lt taking number) ≡ false → taking ≤ number → in_sequence ≡ true → number ≡ taking
no_gap_left true taking number none is_new e = grind (arith, nat_tests)
no_gap_left false taking number none is_new e = absurd (false≢true e)

-- the protection that a flag says
sealed_again : (flag : Bool) → flag ≡ is_sealed (protection_of flag)
sealed_again true = refl
sealed_again false = refl

protection_again : (p : Protection) → protection_of (is_sealed p) ≡ p
protection_again Sealed = refl
protection_again Checksum = refl

pub mic_taken : (c : ContextRecord) (message token : List ℕ) (number : ℕ) → is_mic token ≡ true → IsPeersHeader c token number
    → bytes_eq (drop 16 token) (sum_of c.key (sign_usage (peer c).side) (message ++ take 16 token)) ≡ true → IsMicOf (peer c) number message token
mic_taken c message token number is peers same =
    let last = and_parts _ _ is in
    let third = and_parts _ _ last.0 in
    let second = and_parts _ _ third.0 in
    let long : 16 ≤ length token = leb-true 16 (length token) second.0 in
    record {
      flags = get_or token 2 0;
      marked = record { by_acceptor = peers.by_acceptor; sealed = ne-true _ last.1; under_subkey = peers.under_subkey };
      laid = record {
        header = ((bytes_eq-Decides _ _).0 second.1, (byte-read 2 token (omega arith), ((bytes_eq-Decides _ _).0 third.1, (peers.stands, tt))));
        long = long;
        checksum = (bytes_eq-Decides _ _).0 same;
      };
    }

be16_at-fits : (place : ℕ) (whole : List ℕ) → AreBytes whole → be16_at place whole < 2 ^ 16
unfolding be16_at
be16_at-fits place whole bytes =
    let first : get_or (drop place whole) 0 0 < 256 = rw (get_or-drop place whole 0 0) (bytes (place + 0)) in
    let second : get_or (drop place whole) 1 0 < 256 = rw (get_or-drop place whole 1 0) (bytes (place + 1)) in
    omega (arith, first, second)

be16_at-stands : (place : ℕ) (whole : List ℕ) → AreBytes whole → place + 2 ≤ length whole → Stands (part place (be16 (be16_at place whole))) whole
unfolding be16_at
be16_at-stands place whole bytes inside = be16-stands place _ whole bytes inside refl

wrap_taken : (c : ContextRecord) (d message token : List ℕ) (number : ℕ) → AreBytes token → is_wrap token ≡ true → IsPeersHeader c token number
    → IsCarried (peer c) (protection_of (is_set (get_or token 2 0) 2)) d message token
    → IsWrapOf (peer c) number (protection_of (is_set (get_or token 2 0) 2)) d message token
wrap_taken c d message token number bytes is peers x =
    let third = and_parts _ _ is in
    let second = and_parts _ _ third.0 in
    let long : 16 ≤ length token = leb-true 16 (length token) second.0 in
    let filler = byte-read 3 token (omega arith) ∙ ap (λ (n : ℕ). n ∷ []) ((Decides-eqb _ _).0 third.1) in
    record {
      flags = get_or token 2 0;
      marked = record { by_acceptor = peers.by_acceptor; sealed = sealed_again _; under_subkey = peers.under_subkey };
      ec = be16_at 4 token;
      ec_fits = be16_at-fits 4 token bytes;
      rrc = be16_at 6 token;
      rrc_fits = be16_at-fits 6 token bytes;
      text = x.text;
      carries = x.carries;
      laid = record {
        header = (
          (bytes_eq-Decides _ _).0 second.1,
          (
            byte-read 2 token (omega arith),
            (
              filler,
              (be16_at-stands 4 token bytes (omega arith), (be16_at-stands 6 token bytes (omega arith), (peers.stands, tt))),
            ),
          ),
        );
        long = long;
        checksum = sym x.is_text;
      };
    }

-- what a wrap token carries, by what its header says
pub carried_of : (s : Sender) (number : ℕ) (p : Protection) (d message token : List ℕ) → IsWrapOf s number p d message token → IsCarried s p d message token
carried_of s number p d message token x =
    let ec = be16-again 4 x.ec token x.ec_fits x.laid.header.1.1.1.0 in
    let rrc = be16-again 6 x.rrc token x.rrc_fits x.laid.header.1.1.1.1.0 in
    record {
      text = x.text;
      is_text = ap (λ n. rotated_right n x.text) rrc ∙ sym x.laid.checksum;
      carries = subst (λ n. Carries s p n d message token x.text) (sym ec) x.carries;
    }

pub protection_is : (s : Sender) (number : ℕ) (p : Protection) (d message token : List ℕ) → IsWrapOf s number p d message token
    → protection_of (is_set (get_or token 2 0) 2) ≡ p
protection_is s number p d message token x =
    ap (λ n. protection_of (is_set n 2)) (byte-again 2 x.flags token x.laid.header.1.0) ∙ ap protection_of x.marked.sealed ∙ protection_again p

-- the end takes the message that a token carries
pub takes_wrap : (c new : ContextRecord) (s : Sender) (p : Protection) (message token : List ℕ) (number : ℕ) → s ≡ peer c → p ≡ protection_of (is_set (get_or token 2 0) 2)
    → AreBytes token → is_wrap token ≡ true → IsPeersHeader c token number → (d : List ℕ) × IsCarried s p d message token
    → ((d n : List ℕ) → IsCarried s p d n token → n ≡ message) → new ≡ record c { taking = number + 1 } → TakesWrap c new token number p message
takes_wrap c new s p message token number is_peer is_flagged bytes is peers x only moved =
    let carried = subst (λ q. IsCarried (peer c) q x.0 message token) is_flagged (subst (λ t. IsCarried t p x.0 message token) is_peer x.1) in
    record {
      is_new = peers.is_new;
      in_order = peers.in_order;
      followed = peers.followed;
      confounder = x.0;
      is_wrap_of = subst (λ q. IsWrapOf (peer c) number q x.0 message token) (sym is_flagged) (wrap_taken c x.0 message token number bytes is peers carried);
      only = λ q n d m y. only d m (subst (λ t. IsCarried t p d m token) (sym is_peer)
          (subst (λ v. IsCarried (peer c) v d m token) (sym (protection_is (peer c) n q d m token y) ∙ sym is_flagged) (carried_of (peer c) n q d m token y)));
      moved = moved;
    }

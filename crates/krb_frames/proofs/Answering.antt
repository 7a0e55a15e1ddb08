-- What was written of a reply says how its message was answered.
use Rattle.std.proofs.Common.{◌≡◌, ℕ, ◌≤◌, List, length, drop, Option, Some, Result, Ok, Err, MatchResult, IfErr, None, inr, subst}
use Rattle.std.specs.Io.KnownBytes.{Appends}
use Rattle.krb_frames.specs.declared.fault.ServeFault.{ServeFault}
use Rattle.krb_frames.specs.declared.fault.ServeFault.TheVariants.{Truncated, FrameTooLong, NoRequest, Read, Write, NoWords, NoMoment, ReplyTooLong, Memory, Accounts}
use Rattle.krb_frames.specs.Frames.{framed}
use Rattle.krb_frames.specs.Serving.{IsReply, MayRefuse}
use Rattle.krb_frames.specs.Steps.{IsStepFault, IsWrittenPart, IsReplyWritten, IsReadFault, IsRefusal, IsWordsFault}

module _ (replies : List ℕ → ℕ → List ℕ → Option (List ℕ) → Type 0) (wants : List ℕ → Type 0) (message : List ℕ) (moment : ℕ) (words reply : List ℕ) (old new left : Option (List ℕ)) where
  pub answered : (result : Result (Unit {0}) ServeFault) → IsReply replies message moment words (Some reply) → length reply ≤ 65536 → left ≡ Some (drop 128 words)
      → MatchResult result (λ _. Appends old new (framed reply)) (IsWrittenPart (framed reply) old new)
      → MatchResult result (λ _. IsReplyWritten replies message moment words old new left) (IsStepFault replies wants message moment words old new left)
  answered (Ok _) replied fits rest written = (reply, replied, fits, written, rest)
  answered (Err Truncated) replied fits rest written = absurd written
  answered (Err FrameTooLong) replied fits rest written = absurd written
  answered (Err NoRequest) replied fits rest written = absurd written
  answered (Err Read) replied fits rest written = absurd written
  answered (Err Write) replied fits rest written = (reply, replied, fits, written.0, written.1, rest)
  answered (Err NoWords) replied fits rest written = absurd written
  answered (Err NoMoment) replied fits rest written = absurd written
  answered (Err ReplyTooLong) replied fits rest written = absurd written
  answered (Err Accounts) replied fits rest written = absurd written
  answered (Err Memory) replied fits rest written = (replied.0, inr (reply, replied, fits), written, rest)

-- serving ended so
abbrev Failed : ServeFault → Result ℕ ServeFault
Failed fault = Err fault

-- ---- the faults by which a responder refuses

module _ (replies : List ℕ → ℕ → List ℕ → Option (List ℕ) → Type 0) where
  pub may_refuse : (message : List ℕ) (moment : ℕ) (words : List ℕ) → replies message moment words None → MayRefuse replies
  unfolding MayRefuse
  may_refuse message moment words none = (message, moment, words, none)

  module _ (lacks : Type 0) where
    -- reading random bytes is no refusal
    pub of_words : (fault : ServeFault) → IsWordsFault fault → IsRefusal replies lacks fault
    of_words Truncated is = tt
    of_words FrameTooLong is = tt
    of_words NoRequest is = absurd is
    of_words Read is = tt
    of_words Write is = tt
    of_words NoWords is = tt
    of_words NoMoment is = tt
    of_words ReplyTooLong is = tt
    of_words Memory is = tt
    of_words Accounts is = absurd is

    -- nor is writing a frame
    pub of_written : (result : Result (Unit {0}) ServeFault) (frame : List ℕ) (old new : Option (List ℕ))
        → MatchResult result (λ _. Appends old new frame) (IsWrittenPart frame old new) → IfErr result (IsRefusal replies lacks)
    of_written (Ok _) frame old new written = tt
    of_written (Err Truncated) frame old new written = tt
    of_written (Err FrameTooLong) frame old new written = tt
    of_written (Err NoRequest) frame old new written = absurd written
    of_written (Err Read) frame old new written = tt
    of_written (Err Write) frame old new written = tt
    of_written (Err NoWords) frame old new written = tt
    of_written (Err NoMoment) frame old new written = tt
    of_written (Err ReplyTooLong) frame old new written = tt
    of_written (Err Memory) frame old new written = tt
    of_written (Err Accounts) frame old new written = absurd written

    -- nor is reading a frame
    pub of_read : (fault : ServeFault) → IsReadFault fault → IsRefusal replies lacks fault
    of_read Truncated is = tt
    of_read FrameTooLong is = tt
    of_read NoRequest is = absurd is
    of_read Read is = tt
    of_read Write is = tt
    of_read NoWords is = tt
    of_read NoMoment is = tt
    of_read ReplyTooLong is = tt
    of_read Memory is = tt
    of_read Accounts is = absurd is

    fault_from_failed : (fault other : ServeFault) → Failed fault ≡ Failed other → fault ≡ other
    fault_from_failed fault other e = cc (e)

    pub no_request : (fault : ServeFault) → IsRefusal replies lacks fault → Failed fault ≡ Failed NoRequest → MayRefuse replies
    no_request fault is e = subst (IsRefusal replies lacks) (fault_from_failed fault NoRequest e) is

    pub accounts : (fault : ServeFault) → IsRefusal replies lacks fault → Failed fault ≡ Failed Accounts → lacks
    accounts fault is e = subst (IsRefusal replies lacks) (fault_from_failed fault Accounts e) is

-- What one step of serving does to its devices.
use Rattle.std.specs.Prelude.{◌≡◌, ◌⊎◌, ℕ, ◌<◌, ◌≤◌, List, [], ◌++◌, length, take, drop, Option, Some, None, ⊤}
use Rattle.std.specs.Io.KnownBytes.{Appends, Keeps}
use Rattle.krb_time.specs.Units.{Micros}
use Rattle.byte_streams.specs.Counting.{one_more}
use Rattle.krb_frames.specs.declared.fault.ServeFault.{ServeFault}
use Rattle.krb_frames.specs.declared.fault.ServeFault.TheVariants.{Truncated, FrameTooLong, NoRequest, Read, Write, NoWords, ReplyTooLong, Memory, Accounts}
use Rattle.krb_frames.specs.Frames.{Bad, announced, frame_room, front_of, framed, frame_limit, words_needed}
use Rattle.krb_frames.specs.Serving.{IsReply, MayRefuse}

-- a reader's count of failures after a fault
abbrev pub after_read_fault : ℕ → ServeFault → ℕ
after_read_fault old Read = one_more old
after_read_fault old _ = old

-- a writer's count of failures after a fault
abbrev pub after_write_fault : ℕ → ServeFault → ℕ
after_write_fault old Write = one_more old
after_write_fault old _ = old

-- the first n bytes of the buffer were read from the stream, which has `left`; it has none where the buffer isn't full
pub record IsFilled (stream : List ℕ) (left : Option (List ℕ)) (buffer : List ℕ) (n : ℕ) : Type 0 where
  pub rest : List ℕ
  pub known : left ≡ Some rest
  pub whole : stream ≡ take n buffer ++ rest
  pub ends : n < length buffer → rest ≡ []

-- these bytes were read from the stream, which has the rest left
pub record IsTaken (stream : List ℕ) (left : Option (List ℕ)) (bytes : List ℕ) : Type 0 where
  pub rest : List ℕ
  pub known : left ≡ Some rest
  pub whole : stream ≡ bytes ++ rest

-- at most so many bytes of the stream were read before its reader failed
abbrev pub IsBroken : List ℕ → Option (List ℕ) → ℕ → Type 0
IsBroken stream left room = (n : ℕ) × (n ≤ room) × (left ≡ Some (drop n stream))

-- no frame was read from the stream by this fault, and these bytes are left
abbrev pub IsFrontFault : List ℕ → Option (List ℕ) → ServeFault → Type 0
IsFrontFault stream left Truncated = (front_of stream ≡ Bad Truncated) × (left ≡ Some [])
IsFrontFault stream left FrameTooLong = (front_of stream ≡ Bad FrameTooLong) × (left ≡ Some (drop 4 stream))
IsFrontFault stream left Read = IsBroken stream left (frame_room stream)
IsFrontFault stream left Memory = (4 ≤ length stream) × (announced stream ≤ frame_limit) × (left ≡ Some (drop 4 stream))
IsFrontFault stream left _ = ⊥

-- a message of this size was not read by this fault, and these bytes are left
abbrev pub IsMessageStop : List ℕ → Option (List ℕ) → ℕ → ServeFault → Type 0
IsMessageStop stream left size Truncated = (length stream < size) × (left ≡ Some [])
IsMessageStop stream left size Read = IsBroken stream left size
IsMessageStop stream left size Memory = left ≡ Some stream
IsMessageStop stream left size _ = ⊥

-- a message got no random bytes by this fault, and these are left
abbrev pub IsWordsStop : List ℕ → Option (List ℕ) → ServeFault → Type 0
IsWordsStop words left NoWords = (length words < words_needed) × (left ≡ Some [])
IsWordsStop words left Read = IsBroken words left words_needed
IsWordsStop words left _ = ⊥

-- the faults that reading a message may have
abbrev pub IsMessageFault : ServeFault → Type 0
IsMessageFault Truncated = ⊤
IsMessageFault Read = ⊤
IsMessageFault Memory = ⊤
IsMessageFault _ = ⊥

-- the faults that reading random bytes may have
abbrev pub IsWordsFault : ServeFault → Type 0
IsWordsFault NoWords = ⊤
IsWordsFault Read = ⊤
IsWordsFault _ = ⊥

-- the faults that answering a message may have
abbrev pub IsAnswerFault : ServeFault → Type 0
IsAnswerFault NoRequest = ⊤
IsAnswerFault Read = ⊤
IsAnswerFault Write = ⊤
IsAnswerFault NoWords = ⊤
IsAnswerFault ReplyTooLong = ⊤
IsAnswerFault Memory = ⊤
IsAnswerFault Accounts = ⊤
IsAnswerFault _ = ⊥

-- the faults that reading a frame may have
abbrev pub IsReadFault : ServeFault → Type 0
IsReadFault Truncated = ⊤
IsReadFault FrameTooLong = ⊤
IsReadFault Read = ⊤
IsReadFault Memory = ⊤
IsReadFault _ = ⊥

-- a fault by which a responder refused is one by which it may refuse
abbrev pub IsRefusal : (List ℕ → Micros → List ℕ → Option (List ℕ) → Type 0) → Type 0 → ServeFault → Type 0
IsRefusal replies lacks NoRequest = MayRefuse replies
IsRefusal replies lacks Accounts = lacks
IsRefusal replies lacks _ = ⊤

-- what was written of a frame, where writing it stopped
abbrev pub IsWrittenPart : List ℕ → Option (List ℕ) → Option (List ℕ) → ServeFault → Type 0
IsWrittenPart frame old new Write = (n : ℕ) × Appends old new (take n frame)
IsWrittenPart frame old new Memory = Keeps old new
IsWrittenPart frame old new _ = ⊥

module _ (replies : List ℕ → Micros → List ℕ → Option (List ℕ) → Type 0) where
  -- a message was answered: its reply was written in a frame, and 128 random bytes were taken
  abbrev pub IsReplyWritten : List ℕ → Micros → List ℕ → Option (List ℕ) → Option (List ℕ) → Option (List ℕ) → Type 0
  IsReplyWritten message moment words old new left = (reply : List ℕ) × IsReply replies message moment words (Some reply) × (length reply ≤ frame_limit)
      × Appends old new (framed reply) × (left ≡ Some (drop words_needed words))

module _ (replies : List ℕ → Micros → List ℕ → Option (List ℕ) → Type 0) (wants : List ℕ → Type 0) where
  -- memory ran out: for the answer, if the responder may need it for the message, or for the frame of a reply
  abbrev pub LacksMemory : List ℕ → Micros → List ℕ → Type 0
  LacksMemory message moment words = wants message ⊎ ((reply : List ℕ) × IsReply replies message moment words (Some reply) × (length reply ≤ frame_limit))

  -- a message was not answered by this fault; so much of its reply was written, and these random bytes are left
  abbrev pub IsStepFault : List ℕ → Micros → List ℕ → Option (List ℕ) → Option (List ℕ) → Option (List ℕ) → ServeFault → Type 0
  IsStepFault message moment words old new left NoWords = (length words < words_needed) × Keeps old new × (left ≡ Some [])
  IsStepFault message moment words old new left NoRequest = IsReply replies message moment words None × Keeps old new × (left ≡ Some (drop words_needed words))
  IsStepFault message moment words old new left ReplyTooLong =
      (reply : List ℕ) × IsReply replies message moment words (Some reply) × (frame_limit < length reply) × Keeps old new × (left ≡ Some (drop words_needed words))
  IsStepFault message moment words old new left Write =
      (reply : List ℕ) × IsReply replies message moment words (Some reply) × (length reply ≤ frame_limit) × (n : ℕ) × Appends old new (take n (framed reply))
      × (left ≡ Some (drop words_needed words))
  IsStepFault message moment words old new left Read = IsBroken words left words_needed × Keeps old new
  IsStepFault message moment words old new left Memory =
      (words_needed ≤ length words) × LacksMemory message moment words × Keeps old new × (left ≡ Some (drop words_needed words))
  IsStepFault message moment words old new left Accounts = (words_needed ≤ length words) × Keeps old new × (left ≡ Some (drop words_needed words))
  IsStepFault message moment words old new left _ = ⊥

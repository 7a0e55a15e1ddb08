-- What serving a stream writes and how it ends: the run of a machine over frames.
use Rattle.std.specs.Prelude.{◌≡◌, ◌≢◌, ℕ, ◌-◌, ◌^◌, ◌<◌, ◌≤◌, ◌⊎◌, min, List, [], ◌∷◌, ◌++◌, length, take, drop, map, Option, Some, None, Result, Ok, Err, MatchResult, ⊤}
use Rattle.std.specs.Io.KnownBytes.{Appends}
use Rattle.std.specs.Iterator.{Yields, YieldsThen}
use Rattle.std.specs.List.{concat}
use Rattle.byte_streams.specs.Counting.{one_more}
use Rattle.krb_time.specs.Units.{Micros}
use Rattle.krb_frames.specs.declared.fault.ServeFault.{ServeFault}
use Rattle.krb_frames.specs.declared.fault.ServeFault.TheVariants.{Truncated, FrameTooLong, NoRequest, Read, Write, NoWords, NoMoment, ReplyTooLong, Memory, Accounts}
use Rattle.krb_frames.specs.Frames.{Ended, Bad, Whole, announced, frame_room, front_of, framed, frame_limit, words_needed}

-- the property holds of the bytes of a device, where they are known
abbrev pub WhereKnown : Option (List ℕ) → (List ℕ → Type 0) → Type 0
WhereKnown known P = (bytes : List ℕ) → known ≡ Some bytes → P bytes

-- the bytes of the devices, where they are known: what their readers have left of the stream and of the random bytes, and what the writer wrote
pub record DeviceBytes : Type 0 where
  pub stream : Option (List ℕ)
  pub words : Option (List ℕ)
  pub written : Option (List ℕ)

-- the stream, the random bytes and the written bytes of the devices, each where it is known
abbrev pub device_bytes : Option (List ℕ) → Option (List ℕ) → Option (List ℕ) → DeviceBytes
device_bytes stream words written = record { stream = stream; words = words; written = written }

-- what is still to be served: the moments, the stream and the random bytes
pub record Left : Type 0 where
  pub moments : List Micros
  pub stream : List ℕ
  pub words : List ℕ

-- these moments, this stream and these random bytes are still to be served
abbrev pub at : List Micros → List ℕ → List ℕ → Left
at moments stream words = record { moments = moments; stream = stream; words = words }

-- the next frame is whole and takes the next moment, which leaves `new` but for its random bytes
abbrev pub TakesMoment : Left → Left → Type 0
TakesMoment old new = (message : List ℕ) × (moment : Micros) × (front_of old.stream ≡ Whole message new.stream) × (old.moments ≡ moment ∷ new.moments)

-- the stream's reader failed within the next frame: some bytes of it were read, and no moment and no random byte was taken
abbrev pub BreaksFrame : Left → Left → Type 0
BreaksFrame old new = (n : ℕ) × (n ≤ frame_room old.stream) × (new ≡ at old.moments (drop n old.stream) old.words)

-- the random bytes' reader failed: at most 128 of them were read
abbrev pub BreaksWords : Left → Left → Type 0
BreaksWords old new = TakesMoment old new × (n : ℕ) × (n ≤ words_needed) × (new.words ≡ drop n old.words)

-- the next frame's length was read, and memory ran out for the message
abbrev pub LacksRoom : Left → Left → Type 0
LacksRoom old new = (4 ≤ length old.stream) × (announced old.stream ≤ frame_limit) × (new ≡ at old.moments (drop 4 old.stream) old.words)

-- the accounts can't be read by which the next message is answered, which took its moment and 128 random bytes
abbrev pub LacksAccounts : Left → Left → Type 0
LacksAccounts old new = TakesMoment old new × (words_needed ≤ length old.words) × (new.words ≡ drop words_needed old.words)

-- accounts that answering some message needs may be unreadable
abbrev pub MayLackAccounts : (List ℕ → Type 0) → Type 0
MayLackAccounts lacks = (message : List ℕ) × lacks message

-- `replies message moment words answer`: whether the responder may answer so; the answer is none where the bytes are no request
module _ (replies : List ℕ → Micros → List ℕ → Option (List ℕ) → Type 0) where
  -- some message is no request
  unfoldable pub MayRefuse : Type 0
  MayRefuse = (message : List ℕ) × (moment : Micros) × (words : List ℕ) × replies message moment words None

  -- 128 random bytes are there, and with them the message may be answered so
  abbrev pub IsReply : List ℕ → Micros → List ℕ → Option (List ℕ) → Type 0
  IsReply message moment words answer = (words_needed ≤ length words) × replies message moment (take words_needed words) answer

  -- the next frame takes the next moment and 128 random bytes, is answered so, and leaves `new`
  abbrev pub Asks : Left → Option (List ℕ) → Left → Type 0
  Asks old answer new = (message : List ℕ) × (moment : Micros) × (front_of old.stream ≡ Whole message new.stream)
      × (old.moments ≡ moment ∷ new.moments) × (new.words ≡ drop words_needed old.words) × IsReply message moment old.words answer

  -- the next frame has this reply, which is short enough for a frame
  abbrev pub Step : Left → List ℕ → Left → Type 0
  Step old reply new = Asks old (Some reply) new × (length reply ≤ frame_limit)

  -- the next frames have these replies, and leave `new`
  abbrev pub Run : Left → List (List ℕ) → Left → Type 0
  Run old [] new = new ≡ old
  Run old (reply ∷ done) new = (mid : Left) × Step old reply mid × Run mid done new

  -- what was written of the next reply: a front of its frame where the write failed, and else nothing
  abbrev pub IsReplyFront : Left → ServeFault → List ℕ → Type 0
  IsReplyFront s Write part = (reply : List ℕ) × (after : Left) × (n : ℕ) × Step s reply after × (part ≡ take n (framed reply))
  IsReplyFront s fault part = part ≡ []

-- `wants message`: whether the responder may need memory to answer the message
module _ (replies : List ℕ → Micros → List ℕ → Option (List ℕ) → Type 0) (wants : List ℕ → Type 0) where
  -- memory ran out while the responder answered the next message, which took its moment and 128 random bytes
  abbrev pub LacksAnswer : Left → Left → Type 0
  LacksAnswer old new = (message : List ℕ) × (moment : Micros) × (front_of old.stream ≡ Whole message new.stream)
      × (old.moments ≡ moment ∷ new.moments) × (words_needed ≤ length old.words) × (new.words ≡ drop words_needed old.words) × wants message

  -- the next frame has a reply, and memory ran out for the reply's frame
  abbrev pub LacksFrame : Left → Left → Type 0
  LacksFrame old new = (reply : List ℕ) × Step replies old reply new

  -- serving stops by this fault where `s` is left to serve, and leaves `new`. Memory runs out for a message, for its answer where the
  -- responder may need memory for it, or for the frame of its reply; so bytes that are no request are found before any growth of a reply
  abbrev pub StopsBy : Left → ServeFault → Left → Type 0
  StopsBy s Truncated new = (front_of s.stream ≡ Bad Truncated) × (new ≡ at s.moments [] s.words)
  StopsBy s FrameTooLong new = (front_of s.stream ≡ Bad FrameTooLong) × (new ≡ at s.moments (drop 4 s.stream) s.words)
  -- Bytes that are no request end the run. Test: `stops_at_the_first_fault`.
  StopsBy s NoRequest new = Asks replies s None new
  StopsBy s Read new = BreaksFrame s new ⊎ BreaksWords s new
  StopsBy s Write new = (reply : List ℕ) × Step replies s reply new
  -- Each message takes the next 128 random bytes. Test: `stops_at_the_first_fault`.
  StopsBy s NoWords new = TakesMoment s new × (length s.words < words_needed) × (new.words ≡ [])
  -- Each message takes the next moment, before its random bytes. Test: `stops_at_the_first_fault`.
  StopsBy s NoMoment new = (message : List ℕ) × (rest : List ℕ) × (front_of s.stream ≡ Whole message rest) × (s.moments ≡ []) × (new ≡ at [] rest s.words)
  -- A reply of more than 65,536 bytes isn't written: a limit of this stack. Test: `long_replies`.
  StopsBy s ReplyTooLong new = (reply : List ℕ) × Asks replies s (Some reply) new × (frame_limit < length reply)
  StopsBy s Memory new = LacksRoom s new ⊎ LacksAnswer s new ⊎ LacksFrame s new
  -- Where the accounts can't be read, the run ends, and the message gets no reply. Test: `stops_without_accounts`.
  StopsBy s Accounts new = LacksAccounts s new

  -- what was written is the frames of a run's replies, up to where serving stops with this result and leaves `new`
  abbrev pub IsServed : Left → List ℕ → Result ℕ ServeFault → Left → Type 0
  IsServed start written result new = (done : List (List ℕ)) × (s : Left) × Run replies start done s × MatchResult result
      (λ count. (front_of s.stream ≡ Ended) × (new ≡ s) × (written ≡ concat (map framed done)) × (count ≡ min (length done) (2 ^ 64 - 1)))
      (λ fault. StopsBy s fault new × (part : List ℕ) × IsReplyFront replies s fault part × (written ≡ concat (map framed done) ++ part))

  -- what serving ensures of its devices' bytes, where they are known: what was written, the result and what is left are a run over the
  -- moments that were taken, and over any that may come after them. `Takes moments`: whether these moments were taken
  abbrev pub Serves : (List Micros → Type 0) → DeviceBytes → DeviceBytes → Result ℕ ServeFault → Type 0
  Serves Takes old new result = WhereKnown old.stream (λ stream. WhereKnown old.words (λ words.
      (taken : List Micros) × (written : List ℕ) × (rest : List ℕ) × (more : List ℕ) × Takes taken × Appends old.written new.written written
      × (new.stream ≡ Some rest) × (new.words ≡ Some more)
      × ((later : List Micros) → (result ≡ Err NoMoment → later ≡ []) → IsServed (at (taken ++ later) stream words) written result (at later rest more))))

-- ---- what serving ensures of its devices' counts of failed calls

-- after the fault `Read` one of the two readers has counted one failure more
abbrev pub CountsReadFault : Result ℕ ServeFault → ℕ → ℕ → ℕ → ℕ → Type 0
CountsReadFault result stream_old stream_new words_old words_new =
    result ≡ Err Read → (stream_new ≡ one_more stream_old) ⊎ (words_new ≡ one_more words_old)

-- after the fault `Write` the writer has counted one failure more
abbrev pub CountsWriteFault : Result ℕ ServeFault → ℕ → ℕ → Type 0
CountsWriteFault result old new = result ≡ Err Write → new ≡ one_more old

-- after any other result no call of a reader has failed: a failed call is reported
abbrev pub KeepsReadCounts : Result ℕ ServeFault → ℕ → ℕ → ℕ → ℕ → Type 0
KeepsReadCounts result stream_old stream_new words_old words_new = result ≢ Err Read → (stream_new ≡ stream_old) × (words_new ≡ words_old)

-- after any other result no call of the writer has failed
abbrev pub KeepsWriteCount : Result ℕ ServeFault → ℕ → ℕ → Type 0
KeepsWriteCount result old new = result ≢ Err Write → new ≡ old

-- calls of `next` gave these moments, then none where the fault is `NoMoment`, and left this iterator
abbrev pub Draws : {M : Type 0} → (M → Option Micros → M → Type 0) → Result ℕ ServeFault → M → List Micros → M → Type 0
Draws gives (Ok _) start taken end = Yields gives start taken end
Draws gives (Err NoMoment) start taken end = YieldsThen gives start taken None end
Draws gives (Err _) start taken end = Yields gives start taken end

-- serving ended without a fault of a device, of memory or of the accounts
abbrev pub IsFinal : Result ℕ ServeFault → Type 0
IsFinal (Ok _) = ⊤
IsFinal (Err Read) = ⊥
IsFinal (Err Write) = ⊥
IsFinal (Err Memory) = ⊥
IsFinal (Err Accounts) = ⊥
IsFinal (Err _) = ⊤

-- the second list begins with the first
abbrev pub IsFrontOf : {A : Type 0} → List A → List A → Type 0
IsFrontOf {A} xs ys = (more : List A) × (ys ≡ xs ++ more)

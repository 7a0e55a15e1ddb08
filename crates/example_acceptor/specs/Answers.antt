-- What the message of a frame is answered by.
use Rattle.std.specs.Prelude.{◌≡◌, ◌+◌, ℕ, List, [], Bool, true, false}
use Rattle.gss_contexts.specs.Contexts.{ContextRecord, sender_of}
use Rattle.gss_contexts.specs.Judging.{TakesWrap}
use Rattle.gss_contexts.specs.Tokens.{WritesMic, is_set}
use Rattle.gss_contexts.specs.declared.side.Protection.{Protection}
use Rattle.example_acceptor.specs.declared.frame.Frame.{Frame}

-- a token, wrapped or not, is this message's, and leaves this context
abbrev pub IsOfMessage : Bool → ContextRecord → List ℕ → ContextRecord → List ℕ → Type 0
IsOfMessage true old token new message = (number : ℕ) × (protection : Protection) × TakesWrap old new token number protection message
IsOfMessage false old token new message = (new ≡ old) × (message ≡ token)

-- a message's MIC, if the frame asks for it, or else an empty frame
abbrev pub Acknowledges : Bool → ContextRecord → List ℕ → ContextRecord → Frame → Type 0
Acknowledges true old message new answer =
    (answer.flags ≡ 8) × WritesMic (sender_of old) old.sending message answer.token.items × (new ≡ record old { sending = old.sending + 1 })
Acknowledges false old message new answer = (answer.flags ≡ 1) × (answer.token.items ≡ []) × (new ≡ old)

-- the answer to a frame
abbrev pub IsAnswer : ContextRecord → Frame → ContextRecord → Frame → Type 0
IsAnswer old frame new answer = (mid : ContextRecord) × (message : List ℕ)
    × IsOfMessage (is_set frame.flags 32) old frame.token.items mid message × Acknowledges (is_set frame.flags 128) mid message new answer

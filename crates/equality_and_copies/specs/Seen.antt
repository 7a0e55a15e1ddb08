-- All that a contract sees of a token, its payload too.
use Rattle.std.specs.Prelude.{ℕ, List, Option}
use Rattle.gss_contexts.specs.MessageTokens.{MicFields, WrapFields, mic_of, wrap_of, payload_of}
use Rattle.gss_contexts.specs.declared.message_tokens.mic.MicToken.{MicToken}
use Rattle.gss_contexts.specs.declared.message_tokens.wrap.WrapToken.{WrapToken}

-- What a MIC token carries, and its payload's octets where it has one (RFC 4121, section 4.2.6.1).
abbrev pub seen_mic : MicToken → MicFields × Option (List ℕ)
seen_mic token = (mic_of token, payload_of token.payload)

-- What a wrap token carries, and its payload's octets where it has one (RFC 4121, section 4.2.6.2).
abbrev pub seen_wrap : WrapToken → WrapFields × Option (List ℕ)
seen_wrap token = (wrap_of token, payload_of token.payload)

-- The structs of messages, field by field in the standard's order (MS-NEGOEX, section 2.2.6).
use Rattle.std.specs.Prelude.{ℕ, ◌+◌, List}
use Rattle.negoex_messages.specs.Form.{Layout}
use Rattle.negoex_messages.specs.Leaves.{guid_layout, long_layout, random_layout}
use Rattle.negoex_messages.specs.Pairs.{pair_layout}
use Rattle.negoex_messages.specs.Structs.{HeaderValue, header_layout, bytes_layout, ExtensionValue, extension_layout, ChecksumValue, checksum_layout}
use Rattle.negoex_messages.specs.Vectors.{vector_layout}
use Rattle.negoex_messages.specs.declared.header.MessageHeader.{MessageHeader}
use Rattle.negoex_messages.specs.declared.message_type.MessageType.{MessageType}

-- The header of a message that is made: the signature "NEGOEXTS", and the message's true lengths (MS-NEGOEX, section 2.2.6.2).
abbrev pub made_header : MessageType → List ℕ → ℕ → ℕ → ℕ → MessageHeader
made_header message_type conversation_id sequence_num header_len payload = record {
  signature = 6004521257897772366;
  message_type = message_type;
  sequence_num = sequence_num;
  header_len = header_len;
  message_len = header_len + payload;
  conversation_id = conversation_id;
}

abbrev pub ExchangeValue : Type 0
ExchangeValue = (HeaderValue × List ℕ) × List ℕ

-- 2.2.6.4: Header, AuthScheme; Exchange
abbrev pub exchange_layout : Layout ExchangeValue
exchange_layout = pair_layout (pair_layout header_layout guid_layout) bytes_layout

abbrev pub VerifyValue : Type 0
VerifyValue = (HeaderValue × List ℕ) × ChecksumValue

-- 2.2.6.5: Header, AuthScheme; Checksum
abbrev pub verify_layout : Layout VerifyValue
verify_layout = pair_layout (pair_layout header_layout guid_layout) checksum_layout

abbrev pub NegoValue : Type 0
NegoValue = ((HeaderValue × (List ℕ × ℕ)) × List (List ℕ)) × List ExtensionValue

-- 2.2.6.3: Header, Random, ProtocolVersion; AuthSchemes; Extensions
abbrev pub nego_layout : Layout NegoValue
nego_layout =
    pair_layout (pair_layout (pair_layout header_layout (pair_layout random_layout long_layout)) (vector_layout guid_layout)) (vector_layout extension_layout)

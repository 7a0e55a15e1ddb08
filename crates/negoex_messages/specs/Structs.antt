-- The structs of which messages are made up, field by field in the standard's order (MS-NEGOEX, sections 2.2.5 and 2.2.6.2).
use Rattle.std.specs.Prelude.{ℕ, List}
use Rattle.negoex_messages.specs.Form.{Layout}
use Rattle.negoex_messages.specs.Leaves.{byte_layout, guid_layout, number_layout, signature_layout, scheme_layout}
use Rattle.negoex_messages.specs.Pairs.{pair_layout}
use Rattle.negoex_messages.specs.Types.{type_layout}
use Rattle.negoex_messages.specs.Vectors.{vector_layout}
use Rattle.negoex_messages.specs.declared.message_type.MessageType.{MessageType}

abbrev pub HeaderValue : Type 0
HeaderValue = ℕ × (MessageType × (ℕ × (ℕ × (ℕ × List ℕ))))

-- 2.2.6.2: Signature, MessageType, SequenceNum, cbHeaderLength, cbMessageLength, ConversationId
abbrev pub header_layout : Layout HeaderValue
header_layout =
    pair_layout signature_layout (pair_layout type_layout (pair_layout number_layout (pair_layout number_layout (pair_layout number_layout guid_layout))))

-- 2.2.5.2.3: ByteArrayOffset, ByteArrayLength
abbrev pub bytes_layout : Layout (List ℕ)
bytes_layout = vector_layout byte_layout

abbrev pub ExtensionValue : Type 0
ExtensionValue = ℕ × List ℕ

-- 2.2.5.1.4: ExtensionType, ExtensionValue
abbrev pub extension_layout : Layout ExtensionValue
extension_layout = pair_layout number_layout bytes_layout

abbrev pub ChecksumValue : Type 0
ChecksumValue = (ℕ × (ℕ × ℕ)) × List ℕ

-- 2.2.5.1.3: cbHeaderLength, ChecksumScheme, ChecksumType; ChecksumValue
abbrev pub checksum_layout : Layout ChecksumValue
checksum_layout = pair_layout (pair_layout number_layout (pair_layout scheme_layout number_layout)) bytes_layout

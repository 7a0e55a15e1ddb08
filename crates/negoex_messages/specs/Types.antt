-- The types of messages (MS-NEGOEX, section 2.2.6.1).
use Rattle.std.specs.Prelude.{◌≡◌, ℕ, List, [], ◌∷◌, length, Ok, Err, nat_eq, nat_lt, if◌then◌else◌}
use Rattle.std.specs.declared.io.ErrorKind.TheVariants.{UnexpectedEof, InvalidData}
use Rattle.byte_streams.specs.Numbers.{le32, le32_at}
use Rattle.negoex_messages.specs.Form.{Layout, Answer}
use Rattle.negoex_messages.specs.declared.message_type.MessageType.{MessageType}
use Rattle.negoex_messages.specs.declared.message_type.MessageType.TheVariants.{InitiatorNego, AcceptorNego, InitiatorMetaData, AcceptorMetaData, Challenge, ApRequest, Verify, Alert}

abbrev pub type_number : MessageType → ℕ
type_number InitiatorNego = 0
type_number AcceptorNego = 1
type_number InitiatorMetaData = 2
type_number AcceptorMetaData = 3
type_number Challenge = 4
type_number ApRequest = 5
type_number Verify = 6
type_number Alert = 7

abbrev pub all_types : List MessageType
all_types = InitiatorNego ∷ AcceptorNego ∷ InitiatorMetaData ∷ AcceptorMetaData ∷ Challenge ∷ ApRequest ∷ Verify ∷ Alert ∷ []

-- The message type is one of MS-NEGOEX, section 2.2.6.1 (InvalidData). Test: `refused_exchanges` of `negoex.rt`.
abbrev pub type_among : List MessageType → ℕ → Answer MessageType
type_among [] n = Err InvalidData
type_among (t ∷ ts) n = if nat_eq n (type_number t) then Ok t else type_among ts n

abbrev pub type_of : ℕ → Answer MessageType
type_of = type_among all_types

abbrev pub type_layout : Layout MessageType
type_layout = record {
  width = 4;
  IsLaid = λ t header _. header ≡ le32 (type_number t);
  Fits = λ _. Unit {0};
  read = λ header _. if nat_lt (length header) 4 then Err UnexpectedEof else type_of (le32_at 0 header);
  payload = λ _. 0;
  head = λ t _. le32 (type_number t);
  body = λ _ _. [];
}

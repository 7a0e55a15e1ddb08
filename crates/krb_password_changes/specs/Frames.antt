-- The frame of a request or a reply (RFC 3244, section 2), and how octets are judged as one.
use Rattle.std.specs.Prelude.{◌≡◌, ℕ, ◌+◌, ◌≤◌, ◌<◌, ◌^◌, ◌⊎◌, nat_eq, nat_lt, not, List, ◌++◌, length, Result, Ok}
use Rattle.byte_streams.specs.Numbers.{be16, be16_at}
use Rattle.byte_streams.specs.Parts.{part, Stands}
use Rattle.decision_tables.specs.Tables.{Table, done, need, refuse}
use Rattle.krb_password_changes.specs.declared.messages.frame.FrameRefusal.{FrameRefusal}
use Rattle.krb_password_changes.specs.declared.messages.frame.FrameRefusal.TheVariants.{Memory, TooLong}
use Rattle.krb_password_changes.specs.declared.messages.frame.TheConstants.{FRONT_LEN}
use Rattle.krb_password_changes.specs.declared.messages.result_code.ResultCode.{ResultCode}
use Rattle.krb_password_changes.specs.declared.messages.result_code.ResultCode.TheVariants.{Malformed, BadVersion}
use Rattle.krb_password_changes.specs.declared.messages.version.Version.{Version}
use Rattle.krb_password_changes.specs.Versions.{version_number, version_of}

-- the length of the whole frame, the version, the length of the AP message, the AP message, and the KRB-PRIV or what is in its place
abbrev pub frame_octets : ℕ → List ℕ → List ℕ → List ℕ
frame_octets version ap private =
    be16 (FRONT_LEN + length ap + length private) ++ (be16 version ++ (be16 (length ap) ++ (ap ++ private)))

-- A message is a frame of this version and these parts. Each number has two octets, the highest first (RFC 3244, section 2). Test:
-- `written request`, `written reply` of `password_frames.txt`.
pub record IsFrame (version : Version) (ap private message : List ℕ) : Type 0 where
  pub octets : message ≡ frame_octets (version_number version) ap private
  pub fits : length message < 2 ^ 16

-- How a message is judged as a frame: the first row that holds counts.
-- Not judged: the parts. A message without an AP message, or without octets after it, is a frame (RFC 3244, section 2). Test:
-- `no AP message`, `nothing after the AP message` of `password_frames.txt`.
unfoldable pub frame_table : List ℕ → Table (Result Version ResultCode)
frame_table message =
    -- A message has at least the two lengths and the version (RFC 3244, section 2). Test: `no octet`, `five octets` of
    -- `password_frames.txt`.
    refuse (nat_lt (length message) FRONT_LEN) Malformed
    -- The message length is that of the whole message (RFC 3244, section 2). Test: `message length one too small`, `octet behind the frame`
    -- of `password_frames.txt`.
    (refuse (not (nat_eq (be16_at 0 message) (length message))) Malformed
    -- The version is 0xFF80, or 1 (RFC 3244, section 2). Test: `version 2`, `version 0xFF81` of `password_frames.txt`.
    (need (version_of (be16_at 2 message)) BadVersion (λ version.
    -- The AP message ends in the message (RFC 3244, section 2). Test: `AP length one past the end` of `password_frames.txt`.
    refuse (nat_lt (length message) (FRONT_LEN + be16_at 4 message)) Malformed
    (done (Ok version)))))

-- what is known of a message that no row refuses
pub record IsHeaded (version : Version) (message : List ℕ) : Type 0 where
  pub sized : Stands (part 0 (be16 (length message))) message
  pub versioned : Stands (part 2 (be16 (version_number version))) message
  pub inside : FRONT_LEN + be16_at 4 message ≤ length message
  pub fits : length message < 2 ^ 16

-- No frame is written if memory ran out, or if it would have more than 65,535 octets (RFC 3244, section 2). Test:
-- `length of 65530 and 0` of `password_frames.txt`.
abbrev pub IsUnwritten : List ℕ → List ℕ → FrameRefusal → Type 0
IsUnwritten ap private refusal =
    (refusal ≡ Memory) ⊎ ((refusal ≡ TooLong) × (2 ^ 16 ≤ FRONT_LEN + length ap + length private))

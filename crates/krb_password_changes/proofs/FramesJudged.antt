-- A frame is refused by no row, and its version is one.
use Rattle.std.proofs.Common.{◌≡◌, ℕ, ◌+◌, ◌≤◌, ◌<◌, ◌^◌, Bool, true, false, not, List, length, Option, Some, Ok, Err, nat_lt, nat_eq, refl, ap, sym, ◌∙◌, arith}
use Rattle.std.proofs.lemmas.Bool.Decides.{nat_tests, Decides-eqb}
use Rattle.byte_streams.specs.Numbers.{be16_at}
use Rattle.decision_tables.specs.One.{same_parts}
use Rattle.decision_tables.specs.Tables.{done, need, refuse}
use Rattle.krb_password_changes.specs.declared.messages.result_code.ResultCode.{ResultCode}
use Rattle.krb_password_changes.specs.declared.messages.result_code.ResultCode.TheVariants.{Malformed, BadVersion}
use Rattle.krb_password_changes.specs.declared.messages.version.Version.{Version}
use Rattle.krb_password_changes.specs.declared.messages.version.Version.TheVariants.{ChangePassword, SetPassword}
use Rattle.krb_password_changes.specs.Versions.{version_number, version_of, version_again}
use Rattle.krb_password_changes.specs.Frames.{IsFrame, frame_table}
use Rattle.krb_password_changes.proofs.Cuts.{HasParts, frame-parts}

-- the rows, over their tests
passed : (few sized outside : Bool) (found : Option Version) (version : Version) → few ≡ false → sized ≡ true → found ≡ Some version → outside ≡ false
    → (refuse {T = Version} {E = ResultCode} few Malformed (refuse (not sized) Malformed (need found BadVersion (λ v. refuse outside Malformed (done (Ok v)))))).gives (Ok version)
passed few sized outside found version f s v o = rw (f, s, v, o) refl

not-below : (m n : ℕ) → m ≤ n → nat_lt n m ≡ false
not-below m n fits = grind (arith, nat_tests)

are-equal : (m n : ℕ) → m ≡ n → nat_eq m n ≡ true
are-equal m n is = (Decides-eqb m n).1 is

-- a version's number has two octets
pub version-fits : (version : Version) → version_number version < 2 ^ 16
version-fits ChangePassword = omega arith
version-fits SetPassword = omega arith

-- a version is one of its number
pub version-one : (v w : Version) → version_number v ≡ version_number w → v ≡ w
version-one ChangePassword ChangePassword same = refl
version-one ChangePassword SetPassword same = absurd (omega (arith, same))
version-one SetPassword ChangePassword same = absurd (omega (arith, same))
version-one SetPassword SetPassword same = refl

pub parts-of : (version : Version) (front back message : List ℕ) → IsFrame version front back message → HasParts (version_number version) front back message
parts-of version front back message is = frame-parts (version_number version) front back message (version-fits version) is.octets is.fits

pub frame-judged : (version : Version) (front back message : List ℕ) → IsFrame version front back message → (frame_table message).gives (Ok version)
unfolding frame_table
frame-judged version front back message is =
    let has = parts-of version front back message is in
    let inside = has.inside in
    passed (nat_lt (length message) 6) (nat_eq (be16_at 0 message) (length message)) (nat_lt (length message) (6 + be16_at 4 message)) (version_of (be16_at 2 message)) version
    (not-below 6 (length message) (omega (arith, inside)))
    (are-equal (be16_at 0 message) (length message) has.size)
    (ap version_of has.number ∙ version_again version)
    (not-below (6 + be16_at 4 message) (length message) inside)

-- what a row refuses is no frame
pub not_a_frame : (message : List ℕ) (code : ResultCode) → (frame_table message).gives (Err code)
    → (version : Version) (front back : List ℕ) → IsFrame version front back message → ⊥
not_a_frame message code refused version front back is =
    same_parts (Err code) (Ok version) ((frame_table message).one (Err code) (Ok version) refused (frame-judged version front back message is))

pub frame-one : (v w : Version) (a b p q message : List ℕ) → IsFrame v a p message → IsFrame w b q message → (v ≡ w) × (a ≡ b) × (p ≡ q)
frame-one v w a b p q message first second =
    let one = parts-of v a p message first in
    let other = parts-of w b q message second in
    (version-one v w (sym one.number ∙ other.number), sym one.front_is ∙ other.front_is, sym one.back_is ∙ other.back_is)

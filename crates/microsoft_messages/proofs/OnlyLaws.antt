-- A PAC that is laid out in the bytes is what is read from them.
use Rattle.std.proofs.Common.{◌≡◌, ℕ, ◌+◌, ◌-◌, ◌^◌, ◌<◌, ◌≤◌, Bool, false, List, [], ◌∷◌, length, take, drop, None, Result, Ok, Err, nat_lt, nat_eq, if◌then◌else◌, refl, ap, ◌∙◌, arith}
use Rattle.std.proofs.lemmas.Bool.Decides.{nat_tests}
use Rattle.byte_streams.specs.Parts.{part, Stands, IsLaidOut}
use Rattle.byte_streams.specs.Numbers.{le32, le32_at, le64, le64_at}
use Rattle.byte_streams.proofs.PartLaws.{stands-inside}
use Rattle.byte_streams.proofs.NumberLaws.{length-le32, length-le64, le32-again, le64-again}
use Rattle.microsoft_messages.specs.Buffers.{Buffer, buffer_parts, IsSized, AreSized, IsPac, FieldsFit, AllFit}
use Rattle.microsoft_messages.specs.Faults.{short_of, range_of}
use Rattle.microsoft_messages.specs.Kinds.{kind_number, kind_judged}
use Rattle.microsoft_messages.specs.PacReading.{and_then, head_at, kind_at, fields_at, info_at, content_at, buffer_at, buffers_at, pac_at}
use Rattle.microsoft_messages.specs.declared.pac.kind.PacBufferType.{PacBufferType}
use Rattle.microsoft_messages.specs.declared.pac.kind.PacBufferType.TheVariants as kind
use Rattle.microsoft_messages.specs.declared.pac.info.PacInfoBuffer.{PacInfoBuffer}
use Rattle.microsoft_messages.specs.declared.pac.error.PacError.{PacError}
use Rattle.microsoft_messages.specs.declared.pac.error.PacError.TheVariants.{InvalidVersion}

kind-again : (k : PacBufferType) → kind_judged (kind_number k) ≡ Ok k
kind-again kind.KerbValidationInfo = refl
kind-again kind.Credentials = refl
kind-again kind.ServerChecksum = refl
kind-again kind.KdcChecksum = refl
kind-again kind.ClientInfo = refl
kind-again kind.ConstrainedDelegationInformation = refl
kind-again kind.UpnDnsInfo = refl
kind-again kind.ClientClaimsInfo = refl
kind-again kind.DeviceInfo = refl
kind-again kind.DeviceClaimsInfo = refl
kind-again kind.TicketChecksum = refl
kind-again kind.AttributesInfo = refl
kind-again kind.Requestor = refl
kind-again kind.ExtendedKdcChecksum = refl

kind-small : (k : PacBufferType) → kind_number k < 2 ^ 32
kind-small kind.KerbValidationInfo = omega arith
kind-small kind.Credentials = omega arith
kind-small kind.ServerChecksum = omega arith
kind-small kind.KdcChecksum = omega arith
kind-small kind.ClientInfo = omega arith
kind-small kind.ConstrainedDelegationInformation = omega arith
kind-small kind.UpnDnsInfo = omega arith
kind-small kind.ClientClaimsInfo = omega arith
kind-small kind.DeviceInfo = omega arith
kind-small kind.DeviceClaimsInfo = omega arith
kind-small kind.TicketChecksum = omega arith
kind-small kind.AttributesInfo = omega arith
kind-small kind.Requestor = omega arith
kind-small kind.ExtendedKdcChecksum = omega arith

not_few : (n m : ℕ) → m ≤ n → nat_lt n m ≡ false
not_few n m many = grind (arith, nat_tests)

-- a test that there is enough
passes : {A : Type 0} (n m : ℕ) (e : PacError) (r : Result A PacError) → m ≤ n → (if nat_lt n m then Err e else r) ≡ r
passes n m e r many = ap (λ (b : Bool). if b then Err e else r) (not_few n m many)

pub info-only : (place : ℕ) (info : PacInfoBuffer) (whole : List ℕ) → info.cb_buffer_size < 2 ^ 32 → info.offset < 2 ^ 64
    → Stands (part place (le32 (kind_number info.ul_type))) whole → Stands (part (place + 4) (le32 info.cb_buffer_size)) whole
    → Stands (part (place + 8) (le64 info.offset)) whole → info_at None place whole ≡ Ok info
info-only place info whole small_size small_offset kind_stands size_stands offset_stands =
    let eight = length-le64 info.offset in
    let inside : place + 8 + length (le64 info.offset) ≤ length whole = stands-inside (part (place + 8) (le64 info.offset)) whole (omega arith) offset_stands in
    let number : le32_at place whole ≡ kind_number info.ul_type = le32-again place _ whole (kind-small info.ul_type) kind_stands in
    let size : le32_at (place + 4) whole ≡ info.cb_buffer_size = le32-again (place + 4) _ whole small_size size_stands in
    let offset : le64_at (place + 8) whole ≡ info.offset = le64-again (place + 8) _ whole small_offset offset_stands in
    let is_kind : kind_at None place whole ≡ Ok info.ul_type =
    passes (length whole - place) 4 (short_of None) (kind_judged (le32_at place whole)) (omega arith) ∙ ap kind_judged number ∙ kind-again info.ul_type in
    let is_fields : fields_at None info.ul_type place whole ≡ Ok info =
    passes (length whole - place) 16 (short_of None) _ (omega arith)
    ∙ (λ i. Ok (record { ul_type = info.ul_type; cb_buffer_size = size i; offset = offset i })) in
    ap (λ (r : Result PacBufferType PacError). and_then r (λ k. fields_at None k place whole)) is_kind ∙ is_fields

content-only : (b : Buffer) (whole : List ℕ) → Stands (part b.info.offset b.content) whole → IsSized (length whole) b → content_at None b.info whole ≡ Ok b
content-only b whole stands sized =
    let content : take b.info.cb_buffer_size (drop b.info.offset whole) ≡ b.content =
    ap (λ (n : ℕ). take n (drop b.info.offset whole)) sized.0 ∙ stands in
    passes (length whole) (b.info.offset + b.info.cb_buffer_size) (range_of None) _ sized.1
    ∙ ap (λ (l : List ℕ). Ok (record { info = b.info; content = l })) content

buffers-only : (place : ℕ) (bs : List Buffer) (whole : List ℕ) → FieldsFit bs → IsLaidOut (buffer_parts place bs) whole → AreSized (length whole) bs
    → buffers_at None (length bs) place whole ≡ Ok bs
buffers-only place [] whole fit laid sized = refl
buffers-only place (b ∷ bs) whole fit laid sized =
    let is_info : info_at None place whole ≡ Ok b.info = info-only place b.info whole fit.0.0 fit.0.1 laid.0 laid.1.0 laid.1.1.0 in
    let is_buffer : buffer_at None place whole ≡ Ok b =
    ap (λ (r : Result PacInfoBuffer PacError). and_then r (λ info. content_at None info whole)) is_info ∙ content-only b whole laid.1.1.1.0 sized.0 in
    let others : buffers_at None (length bs) (place + 16) whole ≡ Ok bs = buffers-only (place + 16) bs whole fit.1 laid.1.1.1.1 sized.1 in
    ap (λ (r : Result Buffer PacError). and_then r (λ c. and_then (buffers_at None (length bs) (place + 16) whole) (λ cs. Ok (c ∷ cs)))) is_buffer
    ∙ ap (λ (r : Result (List Buffer) PacError). and_then r (λ cs. Ok (b ∷ cs))) others

pub pac-only : (bs : List Buffer) (whole : List ℕ) → AllFit bs → IsPac bs whole → pac_at None whole ≡ Ok bs
pac-only bs whole fit is =
    let four = length-le32 0 in
    let inside : 4 + length (le32 0) ≤ length whole = stands-inside (part 4 (le32 0)) whole (omega arith) is.parts.1.0 in
    let count : le32_at 0 whole ≡ length bs = le32-again 0 (length bs) whole fit.count is.parts.0 in
    let version : le32_at 4 whole ≡ 0 = le32-again 4 0 whole (omega arith) is.parts.1.0 in
    let head : head_at None whole ≡ Ok (length bs) =
    passes (length whole) 8 (short_of None) _ (omega arith)
    ∙ ap (λ (n : ℕ). if nat_eq n 0 then Ok (le32_at 0 whole) else Err (InvalidVersion n)) version ∙ ap (λ (n : ℕ). Ok n) count in
    ap (λ (r : Result ℕ PacError). and_then r (λ n. buffers_at None n 8 whole)) head
    ∙ buffers-only 8 bs whole fit.fields is.parts.1.1 is.sized

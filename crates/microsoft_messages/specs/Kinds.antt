-- The types of buffers and their numbers (MS-PAC, section 2.4, ulType).
use Rattle.std.specs.Prelude.{ℕ, List, [], ◌∷◌, find, nat_eq, ok_or, Option, Result}
use Rattle.microsoft_messages.specs.declared.pac.kind.PacBufferType.{PacBufferType}
use Rattle.microsoft_messages.specs.declared.pac.kind.PacBufferType.TheVariants as kind
use Rattle.microsoft_messages.specs.declared.pac.error.PacError.{PacError}
use Rattle.microsoft_messages.specs.declared.pac.error.PacError.TheVariants as fault

abbrev pub kind_number : PacBufferType → ℕ
kind_number kind.KerbValidationInfo = 1
kind_number kind.Credentials = 2
kind_number kind.ServerChecksum = 6
kind_number kind.KdcChecksum = 7
kind_number kind.ClientInfo = 10
kind_number kind.ConstrainedDelegationInformation = 11
kind_number kind.UpnDnsInfo = 12
kind_number kind.ClientClaimsInfo = 13
kind_number kind.DeviceInfo = 14
kind_number kind.DeviceClaimsInfo = 15
kind_number kind.TicketChecksum = 16
kind_number kind.AttributesInfo = 17
kind_number kind.Requestor = 18
kind_number kind.ExtendedKdcChecksum = 19

abbrev pub kinds : List PacBufferType
kinds =
    kind.KerbValidationInfo ∷ kind.Credentials ∷ kind.ServerChecksum ∷ kind.KdcChecksum ∷ kind.ClientInfo
    ∷ kind.ConstrainedDelegationInformation ∷ kind.UpnDnsInfo ∷ kind.ClientClaimsInfo ∷ kind.DeviceInfo
    ∷ kind.DeviceClaimsInfo ∷ kind.TicketChecksum ∷ kind.AttributesInfo ∷ kind.Requestor ∷ kind.ExtendedKdcChecksum ∷ []

-- the type that has this number
abbrev pub kind_of : ℕ → Option PacBufferType
kind_of n = find (λ k. nat_eq (kind_number k) n) kinds

-- the type that has this number, or that there is none
abbrev pub kind_judged : ℕ → Result PacBufferType PacError
kind_judged n = ok_or (kind_of n) (fault.PacBufferType n)

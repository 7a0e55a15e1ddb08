-- The numbers of the refusals.
use Rattle.std.specs.Prelude.{ℕ}
use Rattle.block_ciphers.specs.declared.error.KerberosCryptoError.{KerberosCryptoError}
use Rattle.block_ciphers.specs.declared.error.KerberosCryptoError.TheVariants.{KeyLength, CipherLength, AlgorithmIdentifier, AlgorithmIdentifierData, IntegrityCheck, CipherError, CipherUnpad, CipherPad, SeedBitLen, Memory}

-- the number of a refusal, from 1 to 10, which no other variant has
abbrev pub refusal_number : KerberosCryptoError → ℕ
refusal_number (KeyLength found wanted) = 1
refusal_number (CipherLength found wanted) = 2
refusal_number (AlgorithmIdentifier number) = 3
refusal_number (AlgorithmIdentifierData count) = 4
refusal_number IntegrityCheck = 5
refusal_number (CipherError text) = 6
refusal_number CipherUnpad = 7
refusal_number CipherPad = 8
refusal_number (SeedBitLen text) = 9
refusal_number Memory = 10

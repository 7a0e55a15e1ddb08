pub mod Keys
pub mod Pkcs1
pub mod OddPrimes
pub mod Primes
pub mod PrimeSizes
pub mod RightKeys
pub mod GroupPrimes
pub mod Agreements

pub mod Peeks
pub mod Splits
pub mod Streams
mod PathLemmas
pub mod ChoiceLemmas
pub mod DefaultLemmas
pub mod RawLemmas
mod Reading
pub use Rattle.asn1_codec.proofs.Chain

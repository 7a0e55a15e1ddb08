mod Exchanges
mod LoginEnds
mod GrantingRealms
mod HonestParties
mod KeyedLogins
mod ClientMeans
mod Asking
mod LoginMeans
mod MadeClients
mod Rows
mod Honesty
mod ExchangeAsked
pub mod Shown
mod Signatures
mod HonestSignatures
mod FirstAsked
mod Wholeness
pub mod Writable
pub mod Trusting
pub mod Granted
pub mod Taken
pub mod ByCertificate
mod ByRsa
mod PublicKeys

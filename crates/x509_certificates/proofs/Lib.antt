mod UseLemmas
mod ExtensionsLemmas
mod Boundaries
mod Holding
mod Keys

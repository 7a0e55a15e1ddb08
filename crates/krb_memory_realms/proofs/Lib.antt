pub mod Answered
mod Granting
mod Keyed
mod Certificates

pub mod DigestKeys

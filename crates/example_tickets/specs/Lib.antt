pub mod CachedLogins

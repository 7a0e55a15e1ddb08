pub mod CalendarLemmas
pub mod DottedLemmas
pub mod NumberLemmas
pub mod OidLemmas
pub mod TimeLemmas
pub mod Utf8Lemmas

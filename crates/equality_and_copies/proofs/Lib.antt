pub mod ViewLemmas
pub mod SeenLaws
pub mod Seeing

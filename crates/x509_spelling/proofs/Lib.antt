pub mod Refusals
pub mod Rewriting
pub mod ManyLemmas
mod StrictLemmas
pub mod KindRefusals

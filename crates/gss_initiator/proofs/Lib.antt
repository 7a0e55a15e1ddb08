mod Outcomes
mod Progressed
mod Held

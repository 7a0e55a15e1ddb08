mod Apart
mod Moments
mod Named
mod Fronts

mod Visible
mod OneComponent
mod SeenEntries

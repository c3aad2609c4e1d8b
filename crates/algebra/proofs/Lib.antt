-- The examples, the laws of the definitions, and demand 3.
pub mod Lists
pub mod Cells
pub mod Aggregates
pub mod Sorting
pub mod Free
pub mod Change
pub mod Places
pub mod Between
pub mod Sound
pub mod Bounds
pub mod Refusals
pub mod Needs
pub mod Readings
pub mod Fine
pub mod Steps
pub mod StayNotes
pub mod Conversion

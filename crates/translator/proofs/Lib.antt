-- The theorems, a file each; `Kept` holds a term of every promise of the front page.
pub mod PlacesWithin
pub mod Answered
pub mod LaysOut
pub mod Kept

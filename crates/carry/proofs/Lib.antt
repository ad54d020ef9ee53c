-- The laws of carrying.
pub mod Cases
pub mod Bearing
pub mod Shapes
pub mod Taking
pub mod ApartChains
pub mod Delays
pub mod Takes
pub mod Calls
pub mod Entered
pub mod CarriedAgain
pub mod CarryAnswers
pub mod CarriedBack
pub mod LabelsIgnored
pub mod Kept
pub mod Witness

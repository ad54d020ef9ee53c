-- Laws of accepted sheets, and instances of what the check's functions ask. `Laws` hands on those of the check's own.
pub mod AcceptedAgain
pub mod LabelsAgain
pub mod FittingWidths
pub mod Refusing
pub mod Callable
pub mod Calls
pub mod Laws
pub mod LeafBounds
pub mod PairWitness
pub mod PassesAgain
pub mod Requirements
pub mod Scopes
pub mod Small
pub mod TypeTables
pub mod Witness

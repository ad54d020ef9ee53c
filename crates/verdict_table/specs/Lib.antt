-- The table of verdicts on bytes.
-- To believe:
pub mod Promises
-- Examples, by computation, of which its promise speaks:
pub mod Rows
pub mod LengthRows
pub mod HeaderRows
pub mod WordRows
pub mod NumberingRows
pub mod NamingRows
pub mod SharingRows
pub mod TypeRecordRows
pub mod DepthRows
pub mod AcceptedRows

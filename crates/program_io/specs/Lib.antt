-- What the functions that read and name files give.
pub mod Files

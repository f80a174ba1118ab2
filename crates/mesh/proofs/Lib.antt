-- The proofs of the two laws of `specs/Laws.antt`, each file after those that it uses. Assumes nothing.
pub mod Lists
pub mod Occurs
pub mod Results
pub mod Lowests
pub mod Edges
pub mod Faces
pub mod Marks
pub mod Bytes
pub mod Drafts
-- what is written is read
pub mod Passing
pub mod ReadsBack
-- what is read was written
pub mod Spelled
pub mod Kept
pub mod ReadsWritings
-- that a shape keeps the rules is one fact
pub mod Certain

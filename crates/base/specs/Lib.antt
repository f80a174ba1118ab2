pub mod Bases
pub mod Drafts
pub mod Faces
pub mod Meshes
pub mod Views

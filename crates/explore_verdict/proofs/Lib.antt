pub mod BegunMeshes
pub mod Blocks
pub mod Colons
pub mod PiecesMore
pub mod Runs
pub mod TextSets
pub mod WrittenLines
